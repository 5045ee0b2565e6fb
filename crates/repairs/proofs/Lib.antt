pub mod Peeling
pub mod Undo
pub mod Mending
pub mod Enough
pub mod Edges
