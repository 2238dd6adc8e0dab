-- The theory of the machine of moves: an invariant that every move keeps, and three theorems from it. What is reached is
-- never free (Reach), a cycle takes at most C working turns (Bound), a garbage cell is free in fewer than 3 C of them (Fate).
-- Here are the definitions; the theorems stand in proofs/, under the same names.
pub mod Base
pub mod Machine
pub mod Writing
pub mod Collecting
pub mod Moves
pub mod Rows
pub mod Closure
pub mod ClosedCollecting
pub mod Protection
pub mod Tidiness
pub mod Making
pub mod GuardedWriting
pub mod GuardedCollecting
pub mod Scan
pub mod Invariant
pub mod Run
pub mod Reach
pub mod Bound
pub mod Doom
pub mod Fate
