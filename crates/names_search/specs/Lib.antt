pub mod Pairs
pub mod Listed
pub mod Lent
pub mod Having
