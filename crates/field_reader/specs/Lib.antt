pub mod FieldReader
pub mod Steps
