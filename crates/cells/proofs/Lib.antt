pub mod Looping
pub mod Testing
