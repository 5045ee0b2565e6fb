-- What follows for the plate from the laws of the library.
pub mod Kept
