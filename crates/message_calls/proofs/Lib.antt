pub mod Laws
pub mod ControlLaws
