pub mod Plain
pub mod Calls
pub mod Fits
pub mod Unchanged
pub mod Determined
