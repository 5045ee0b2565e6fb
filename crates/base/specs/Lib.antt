-- What its contracts do not cite of `rules`.
pub mod First
pub mod Places
pub mod Closing
pub mod Digits
pub mod Words
