pub mod Arms
pub mod Lookups
pub mod Scanning
