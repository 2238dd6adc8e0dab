pub mod Commands
pub mod Digits
pub mod Reading
pub mod Splitting
pub mod Walking
