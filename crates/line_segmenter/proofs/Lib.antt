pub mod FaultLemmas
pub mod BorrowedLemmas
pub mod OverlayLemmas
pub mod ResultLemmas
pub mod OutOfMemoryLemmas
pub mod WordLemmas
pub mod SegmentedTexts
