pub mod Costs
pub mod Headers
pub mod Reading
pub mod Rows
