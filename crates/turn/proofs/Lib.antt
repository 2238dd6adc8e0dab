pub mod Beginning
pub mod Laws
pub mod OwnRows
pub mod Seeing
pub mod Sizes
pub mod Asking
