pub mod Search
pub mod Nodes
pub mod Rivals
