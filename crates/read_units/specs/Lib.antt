-- What the contracts cite.
pub mod Units
pub mod Marks
