pub mod ControlBlock
pub mod Internal
