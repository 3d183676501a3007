pub mod FaultWords
pub mod Segmenters
pub mod LastLines
pub mod PathEnds
pub mod Faults
pub mod TextLines
pub mod Trusted
