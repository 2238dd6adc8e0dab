-- The fate of a garbage cell: the moves after which it is not free yet, and what holds of it as long.
use Rattle.std.specs.Prelude.{◌≢◌, ℕ, ◌+◌, ◌*◌, ◌≤◌, ◌<◌}
use Rattle.moves.specs.Machine.{Stage, St}
use Rattle.moves.specs.Moves.{Move, stage', after, work, close}
use Rattle.moves.specs.Invariant.{Inv}
use Rattle.moves.specs.Reach.{Reach}
use Rattle.moves.specs.Bound.{c_max, BoundIn, Placed, in_cycle}
use Rattle.moves.specs.Doom.{Doomed}

-- From (σ₀, s₀) moves lead to (σ, s), and x was free after none of them; W of them were working turns, a were closings.
pub data Later (x : ℕ) (σ₀ : Stage) (s₀ : St) : ℕ → ℕ → Stage → St → Type 0 where
  now : Later x σ₀ s₀ 0 0 σ₀ s₀
  turn : {W a : ℕ} {σ : Stage} {s : St} → Later x σ₀ s₀ W a σ s → (m : Move s σ) → (after m).colour x ≢ 0
      → Later x σ₀ s₀ (W + work m) (close m a) (stage' m) (after m)

-- what holds of a garbage cell x that has not been free since, after W working turns and a closings
pub record Lingering (x W a : ℕ) (σ : Stage) (s : St) : Type 0 where
  pub inv-now : Inv σ s
  pub bound-now : BoundIn σ s
  pub placed-now : Placed σ s.N s.g
  pub cell : x < s.N
  pub lost : ¬ Reach s x
  pub used : s.colour x ≢ 0
  pub doom : Doomed a σ s.colour s.field x
  pub load-now : W ≤ a * c_max s.N s.g + in_cycle σ s.count
