pub mod Settings
pub mod DataBytes
