pub mod Sender
pub mod Internal
