pub mod OneOutput
pub mod JoinedTexts
pub mod SourceRuns
pub mod SourceDicts
pub mod SourceFaults
pub mod Segmentation
