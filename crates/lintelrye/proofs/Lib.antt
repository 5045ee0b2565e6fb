-- The laws of the public calls.
pub mod RoundTrip
pub mod Determined
pub mod Nested
