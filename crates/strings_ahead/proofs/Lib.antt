pub mod Reach
pub mod Spelt
pub mod Turns
