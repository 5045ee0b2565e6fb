-- What the readers find, from the laws of the identifiers, and the turns of the loops.
pub mod Names
pub mod Readings
pub mod Runs
pub mod Turns
