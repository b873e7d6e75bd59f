pub mod Format
pub mod Judge
pub mod Content
