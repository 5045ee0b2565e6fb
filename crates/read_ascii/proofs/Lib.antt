pub mod Contents
pub mod Exact
