pub mod Laws
pub mod Segment
pub mod Joined
