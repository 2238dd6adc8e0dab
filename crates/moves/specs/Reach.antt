-- What is reached by fields from pages, slots and jobs.
use Rattle.std.specs.Prelude.{◌≡◌, ℕ, ◌<◌}
use Rattle.moves.specs.Machine.{Row, St, none}
use Rattle.moves.specs.Rows.{job_name}

-- Reached: none, a page, a slot, a number that a job carries, and a field of what is reached. It is over the parts of the
-- store that it depends on, and never decided.
pub data Rch (g M : ℕ) (fd : ℕ → ℕ → ℕ) (rs : ℕ → Row) : ℕ → Type 0 where
  nil : {v : ℕ} → v ≡ none → Rch g M fd rs v
  page : {v : ℕ} → v < g → Rch g M fd rs v
  slot : {v : ℕ} (w k : ℕ) → w < M → k < 8 → v ≡ (rs w).slots k → Rch g M fd rs v
  name : {v : ℕ} (w k : ℕ) → w < M → v ≡ job_name (rs w).job k → Rch g M fd rs v
  step : {v : ℕ} (x f : ℕ) → Rch g M fd rs x → f < 4 → v ≡ fd x f → Rch g M fd rs v

-- reached in a store
abbrev pub Reach : St → ℕ → Type 0
Reach s v = Rch s.g s.M s.field s.rows v
