-- The laws that the proofs of the functions cite.
pub mod Ahead
pub mod Kept
