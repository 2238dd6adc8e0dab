-- What is known of a garbage cell, closing by closing: after the first closing no gray cell leads to it once the scan is over,
-- after the second it is white.
use Rattle.std.specs.Prelude.{◌≡◌, ◌⊎◌, ℕ, zero, suc, ◌≤◌, ◌<◌}
use Rattle.moves.specs.Machine.{Stage, rest, ask1, ask2, roots, scan, sweep}

-- y leads to x by fields
pub data Leads (fd : ℕ → ℕ → ℕ) (x : ℕ) : ℕ → Type 0 where
  here : {y : ℕ} → y ≡ x → Leads fd x y
  by : {y : ℕ} (f : ℕ) → f < 4 → Leads fd x (fd y f) → Leads fd x y

-- no gray cell leads to x
abbrev pub NoGray : (ℕ → ℕ) → (ℕ → ℕ → ℕ) → ℕ → Type 0
NoGray c fd x = (y : ℕ) → c y ≡ 2 → ¬ Leads fd x y

-- the hold does not lead to x
abbrev pub HoldOut : Stage → (ℕ → ℕ → ℕ) → ℕ → Type 0
HoldOut rest fd x = Unit {0}
HoldOut ask1 fd x = Unit {0}
HoldOut ask2 fd x = Unit {0}
HoldOut (roots p) fd x = Unit {0}
HoldOut (scan p k h f) fd x = ¬ Leads fd x h
HoldOut (sweep p) fd x = Unit {0}

-- the sweep has not passed x
abbrev pub Unswept : Stage → ℕ → Type 0
Unswept rest x = Unit {0}
Unswept ask1 x = Unit {0}
Unswept ask2 x = Unit {0}
Unswept (roots p) x = Unit {0}
Unswept (scan p k h f) x = Unit {0}
Unswept (sweep p) x = p ≤ x

-- after one closing: in the sweep no gray cell leads to x, and x is white, or black and still to be swept
abbrev pub DoomedOnce : Stage → (ℕ → ℕ) → (ℕ → ℕ → ℕ) → ℕ → Type 0
DoomedOnce rest c fd x = Unit {0}
DoomedOnce ask1 c fd x = Unit {0}
DoomedOnce ask2 c fd x = Unit {0}
DoomedOnce (roots p) c fd x = Unit {0}
DoomedOnce (scan p k h f) c fd x = Unit {0}
DoomedOnce (sweep p) c fd x = NoGray c fd x × ((c x ≡ 1) ⊎ ((p ≤ x) × (c x ≡ 3)))

-- What is known of the garbage cell x, by the number of closings since it was garbage. After two of them x is white, and
-- nothing will gray it; a third one is not reached, for the sweep frees x before.
abbrev pub Doomed : ℕ → Stage → (ℕ → ℕ) → (ℕ → ℕ → ℕ) → ℕ → Type 0
Doomed zero σ c fd x = Unit {0}
Doomed (suc zero) σ c fd x = DoomedOnce σ c fd x
Doomed (suc (suc zero)) σ c fd x = NoGray c fd x × HoldOut σ fd x × (c x ≡ 1) × Unswept σ x
Doomed (suc (suc (suc n))) σ c fd x = ⊥
