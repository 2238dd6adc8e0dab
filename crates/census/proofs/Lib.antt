pub mod Walks
pub mod Marks
pub mod Counting
pub mod ByValue
pub mod Stretches
