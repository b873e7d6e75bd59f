pub mod Framed
pub mod Laws
