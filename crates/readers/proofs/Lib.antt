-- The laws of the short reader.
pub mod Rooms
pub mod Quoted
