pub mod Letters
pub mod Packed
