pub mod LineErrors
pub mod GoodLines
pub mod StreamState
pub mod Steps
pub mod LinesInMemory
pub mod Runs
pub mod GoodRuns
