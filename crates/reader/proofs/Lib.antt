pub mod Characters
pub mod Bytewise
pub mod Narrow
pub mod Placed
pub mod Scanning
pub mod JsonRows
pub mod Ruleless
