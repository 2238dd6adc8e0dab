-- A fresh store, and the runs of moves from it.
use Rattle.std.specs.Prelude.{◌≡◌, ℕ, ◌≤◌, ◌<◌}
use Rattle.moves.specs.Machine.{Stage, rest, idle, St, none}
use Rattle.moves.specs.Moves.{Move, stage', after}

-- The store that start makes: pages white, other cells free, fields none, rows idle with status 0 and empty slots.
-- The count is said apart.
pub record IsStart (s : St) : Type 0 where
  pub room : s.N ≤ 4096
  pub whites : (i : ℕ) → i < s.g → s.colour i ≡ 1
  pub frees : (i : ℕ) → s.g ≤ i → i < s.N → s.colour i ≡ 0
  pub rest-black : (i : ℕ) → s.N ≤ i → s.colour i ≡ 3
  pub pages-fit : s.g ≤ s.N
  pub fields : (x f : ℕ) → s.field x f ≡ none
  pub status : (w : ℕ) → (s.rows w).status ≡ 0
  pub slots : (w k : ℕ) → (s.rows w).slots k ≡ none
  pub jobs : (w : ℕ) → (s.rows w).job ≡ idle

-- a stage and a store that some moves lead to from a fresh store, which is at rest
pub data Run (s₀ : St) : Stage → St → Type 0 where
  start : Run s₀ rest s₀
  then : {σ : Stage} {s : St} → Run s₀ σ s → (m : Move s σ) → Run s₀ (stage' m) (after m)
