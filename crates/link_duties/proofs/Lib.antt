pub mod Computed
pub mod Counterexamples
pub mod Further
pub mod Needed
