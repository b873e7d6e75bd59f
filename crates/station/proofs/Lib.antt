pub mod Texts
pub mod Duplicates
pub mod Turns
pub mod Plain
pub mod History
pub mod Retransmission
pub mod Replies
pub mod ReadBack
