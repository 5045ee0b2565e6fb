pub mod Heads
pub mod Finds
pub mod Sums
pub mod Cuts
pub mod Steps
pub mod Parts
