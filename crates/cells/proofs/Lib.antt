pub mod CellLemmas
pub mod TokenSteps
