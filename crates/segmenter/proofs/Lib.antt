pub mod UserDicts
pub mod OverlayLemmas
pub mod RunFaults
pub mod ResultLemmas
pub mod OneOutput
pub mod JoinedTexts
pub mod SegmentedTexts
