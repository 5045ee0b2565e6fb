pub mod Named
pub mod Ends
pub mod Answered
pub mod Closest
