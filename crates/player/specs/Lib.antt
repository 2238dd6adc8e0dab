pub mod Game
pub mod Own
pub mod Play
pub mod Cut
pub mod Cases
