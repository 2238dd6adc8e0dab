-- Guarded as it was, but for the stage and the colours: of this protection under the collector's moves speaks.
use Rattle.std.specs.Prelude.{ℕ}
use Rattle.moves.specs.Machine.{Stage, St}
use Rattle.moves.specs.Protection.{GuardIn}

-- guarded with another stage and other colours; fields and rows are as they were
abbrev pub GuardWith : St → Stage → (ℕ → ℕ) → ℕ → Type 0
GuardWith s σ c v = GuardIn σ s.g s.M c s.field s.rows v
