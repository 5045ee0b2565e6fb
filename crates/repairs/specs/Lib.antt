-- The definitions of RULES 24, and what the functions of this crate return.
pub mod Repair
pub mod Edges
pub mod Layers
