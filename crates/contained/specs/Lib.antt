-- Which context goes where: one table of contexts and places.
pub mod Matrix
