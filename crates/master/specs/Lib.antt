pub mod Master
pub mod Reversal
pub mod MasterCalls
pub mod MasterHistory
