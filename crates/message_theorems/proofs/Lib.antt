pub mod Examples
pub mod Bytes
pub mod Segments
pub mod Answer
pub mod Control
pub mod HandedOut
pub mod InBlock
pub mod Made
