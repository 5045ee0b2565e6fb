pub mod Seams
