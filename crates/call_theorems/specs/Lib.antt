pub mod Verdicts
pub mod Reading
pub mod Driver
pub mod DriversRun
pub mod DriversPromise
pub mod Apart
