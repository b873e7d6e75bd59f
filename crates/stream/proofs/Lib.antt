pub mod Steps
pub mod Store
pub mod Returns
pub mod Run
