pub mod Parts
pub mod Heads
pub mod Next
pub mod Grown
