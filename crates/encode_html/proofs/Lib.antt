pub mod Seven
pub mod Text
pub mod Growth
pub mod Choices
pub mod Unchanged
pub mod Sixteen
