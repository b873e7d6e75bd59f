pub mod Receiver
pub mod Internal
