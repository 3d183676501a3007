pub mod Words
pub mod Explanations
pub mod Statuses
