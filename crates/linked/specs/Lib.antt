-- What a program may rely on that is linked with the exported calls (Linked), and the definitions by which the theorems of proofs/ go.
pub mod Tellable
pub mod Telling
pub mod Called
pub mod Kept
pub mod Playing
pub mod Beginning
pub mod Linked
