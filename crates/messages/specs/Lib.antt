pub mod Messages
pub mod Write
pub mod Internal
