pub mod Laws
pub mod Shapes
pub mod Returns
