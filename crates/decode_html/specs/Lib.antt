-- What the contracts of this crate say over the definitions of `rules`.
pub mod Taking
pub mod Digits
pub mod Bodies
