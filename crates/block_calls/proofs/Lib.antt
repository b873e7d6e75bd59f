pub mod ReadBack
pub mod ReadLaws
pub mod WriteLaws
