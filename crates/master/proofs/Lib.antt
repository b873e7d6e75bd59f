pub mod Valid
pub mod History
pub mod ReadBack
pub mod Reversing
pub mod Heard
