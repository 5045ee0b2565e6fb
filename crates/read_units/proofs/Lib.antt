-- The laws that the proofs of the functions cite.
pub mod Numbers
pub mod Reading
pub mod Turns
