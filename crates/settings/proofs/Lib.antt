pub mod Laws
pub mod DataLaws
