-- What the contracts cite.
pub mod Outcomes
