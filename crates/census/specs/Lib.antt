pub mod Room
pub mod Walk
pub mod Counting
pub mod Determined
