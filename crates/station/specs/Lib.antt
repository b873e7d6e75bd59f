pub mod Station
pub mod Interrupt
pub mod History
pub mod Retransmission
pub mod Replies
pub mod StationCalls
