-- What the search says of the head of a text.
pub mod Words
pub mod Heads
