-- What its contracts say over the definitions of `rules`.
pub mod Heads
pub mod Words
