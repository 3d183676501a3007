pub mod Rows
pub mod ExplainedLines
pub mod LineExplanations
pub mod PrintedWhy
pub mod OneLoss
