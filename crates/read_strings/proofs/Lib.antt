-- The laws that the proofs of the functions cite.
pub mod Six
pub mod Looks
pub mod Clearing
pub mod Forms
pub mod Reading
pub mod Turns
pub mod Starts
