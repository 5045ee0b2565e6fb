pub mod Header
pub mod Digits
pub mod Limit
pub mod Parted
pub mod Viewed
pub mod Enough
