pub mod Header
pub mod Internal
