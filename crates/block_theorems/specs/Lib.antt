pub mod Shapes
pub mod Session
