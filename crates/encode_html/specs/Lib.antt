-- What the fast encoder counts and writes, byte by byte.
pub mod Written
pub mod Gains
pub mod Words
pub mod Keys
