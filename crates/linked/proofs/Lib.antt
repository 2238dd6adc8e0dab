-- The theorems: a start that answers 100 gives what a program may rely on (Linked).
pub mod Desk
pub mod Tellable
pub mod Telling
pub mod Refusing
pub mod Called
pub mod Kept
pub mod Playing
pub mod Beginning
pub mod Linked
