pub mod System
pub mod Promise
pub mod Needed
pub mod Calls
