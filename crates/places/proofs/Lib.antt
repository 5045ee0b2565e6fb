-- What the places make of the samples.
pub mod Samples
