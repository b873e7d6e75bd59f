pub mod Stream
pub mod Scan
pub mod Internal
