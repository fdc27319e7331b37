-- Splits of a frame into blocks.
pub mod Splits
