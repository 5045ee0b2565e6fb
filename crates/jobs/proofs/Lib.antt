-- The laws of jobs.
pub mod Found
