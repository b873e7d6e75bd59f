pub mod ControlId
