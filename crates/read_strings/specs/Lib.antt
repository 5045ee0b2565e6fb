-- What the contracts cite.
pub mod Clear
pub mod Units
pub mod Marks
pub mod Dense
