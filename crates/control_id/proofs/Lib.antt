pub mod Words
pub mod ControlIds
