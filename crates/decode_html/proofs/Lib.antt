pub mod Ceiling
pub mod Runs
pub mod Bodies
pub mod Readings
pub mod Known
pub mod Passing
pub mod Turns
