pub mod ReaderWords
pub mod ReadCalls
pub mod CheckCalls
pub mod WriteCalls
pub mod Internal
