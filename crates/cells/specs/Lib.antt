pub mod Block
pub mod Cells
pub mod CellBlock
