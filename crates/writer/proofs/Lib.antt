pub mod Facts
pub mod Frees
