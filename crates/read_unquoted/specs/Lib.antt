-- What the contracts cite.
pub mod Numbered
