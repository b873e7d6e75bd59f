pub mod Laws
pub mod Rows
pub mod Replying
pub mod Acts
