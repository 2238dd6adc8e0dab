-- The scan's passes: while found is 0, a gray cell that is left lies at the place or past it.
use Rattle.std.specs.Prelude.{◌≡◌, ℕ, zero, suc, ◌≤◌}
use Rattle.moves.specs.Machine.{Stage, rest, ask1, ask2, roots, scan, sweep, none}

-- While found is 0 no cell is open or held, and if any cell is gray then there is a gray one at the place or past it.
abbrev pub GrayAhead : Stage → (ℕ → ℕ) → Type 0
GrayAhead rest c = Unit {0}
GrayAhead ask1 c = Unit {0}
GrayAhead ask2 c = Unit {0}
GrayAhead (roots p) c = Unit {0}
GrayAhead (scan p zero h zero) c = (h ≡ none) × ((x : ℕ) → c x ≡ 2 → (y : ℕ) × (p ≤ y) × (c y ≡ 2))
GrayAhead (scan p zero h (suc f)) c = Unit {0}
GrayAhead (scan p (suc k) h zero) c = ⊥
GrayAhead (scan p (suc k) h (suc f)) c = Unit {0}
GrayAhead (sweep p) c = Unit {0}

-- stage 4
abbrev pub IsScan : Stage → Type 0
IsScan rest = ⊥
IsScan ask1 = ⊥
IsScan ask2 = ⊥
IsScan (roots p) = ⊥
IsScan (scan p k h f) = Unit {0}
IsScan (sweep p) = ⊥
