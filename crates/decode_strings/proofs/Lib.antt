pub mod Finding
pub mod Hex
pub mod Standing
pub mod Strings
