-- The laws of plain texts.
pub mod Kept
pub mod Xors
pub mod Parts
