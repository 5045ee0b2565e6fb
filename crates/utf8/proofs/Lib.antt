pub mod Chars
pub mod Texts
pub mod Parts
