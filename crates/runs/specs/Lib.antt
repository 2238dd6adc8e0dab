-- Demand 3 (Demand3), what a program may rely on that plays the public calls (Site), and the definitions by which the theorems of
-- proofs/ go.
pub mod Demand3
pub mod Refused
pub mod Abs
pub mod Frame
pub mod Storing
pub mod Course
pub mod Range
pub mod RangeRow
pub mod Site
