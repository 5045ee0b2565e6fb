pub mod Told
pub mod Contents
