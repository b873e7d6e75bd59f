pub mod MessageCalls
pub mod FieldCalls
pub mod ControlCalls
