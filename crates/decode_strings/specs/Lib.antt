-- What the contracts of the functions inside cite.
pub mod Finds
pub mod Hex
pub mod Strings
