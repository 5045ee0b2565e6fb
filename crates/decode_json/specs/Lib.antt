-- What the contracts of the functions inside cite.
pub mod Escapes
