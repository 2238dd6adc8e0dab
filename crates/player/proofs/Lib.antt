pub mod Keeping
pub mod Steps
pub mod Filling
pub mod Plays
pub mod Before
pub mod Cut
