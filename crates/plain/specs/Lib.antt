-- The bytes that no operation changes.
pub mod Plain
