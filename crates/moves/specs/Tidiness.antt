-- Tidiness: what the jobs have grayed is dark, and nobody but its writer names a cell in the making.
use Rattle.std.specs.Prelude.{◌≡◌, ◌≢◌, ℕ, ◌≤◌, ◌<◌}
use Rattle.moves.specs.Machine.{Stage, rest, ask1, ask2, roots, scan, sweep, Plan, bare, trace, full, Phase, reading}
use Rattle.moves.specs.Machine.{graying_old, graying_new, writing, Made, Job, idle, answering, storing, creating, Row}
use Rattle.moves.specs.Machine.{St, none}
use Rattle.moves.specs.Rows.{job_name}
use Rattle.moves.specs.Closure.{Live}
use Rattle.moves.specs.Protection.{Tracing, OldIs}

-- X, once a store has grayed its old value
abbrev pub PastOld : Phase → Type 0 → Type 0
PastOld reading X = Unit {0}
PastOld graying_old X = Unit {0}
PastOld graying_new X = X
PastOld writing X = X

-- X, once a store has grayed its new value
abbrev pub PastNew : Phase → Type 0 → Type 0
PastNew reading X = Unit {0}
PastNew graying_old X = Unit {0}
PastNew graying_new X = Unit {0}
PastNew writing X = X

-- A store's plan fits the status and the stage, and what it has grayed is dark. A bare plan is one of status 0 while there is
-- no tracing; a tracing plan is of status 0; a full one of status 1 or 2.
abbrev pub StoreDark : Plan → Phase → Stage → (ℕ → ℕ) → ℕ → ℕ → ℕ → Type 0
StoreDark bare ph σ c st v o = (st ≡ 0) × (Tracing σ → ⊥)
StoreDark trace ph σ c st v o = (st ≡ 0) × PastOld ph (Tracing σ → 2 ≤ c o)
StoreDark full ph σ c st v o = (1 ≤ st) × PastOld ph (2 ≤ c o) × PastNew ph (2 ≤ c v)

-- The same of a job; a cell in the making is black while its writer has status 1 or 2, and while there is tracing.
abbrev pub JobDark : Stage → (ℕ → ℕ) → ℕ → Job → Type 0
JobDark σ c st idle = Unit {0}
JobDark σ c st (answering i) = Unit {0}
JobDark σ c st (storing p ph x f v o) = StoreDark p ph σ c st v o
JobDark σ c st (creating m n i) = (1 ≤ st → c n ≡ 3) × (Tracing σ → c n ≡ 3)

-- Nobody but writer w names n, the cell that it creates: n is no page, and in no slot, no other job and no field of a live
-- cell; its own fields are none.
pub record Fresh (σ : Stage) (N g M : ℕ) (c : ℕ → ℕ) (fd : ℕ → ℕ → ℕ) (rs : ℕ → Row) (w n : ℕ) : Type 0 where
  pub page : g ≤ n
  pub small : n < N
  pub slot : (u k : ℕ) → u < M → k < 8 → (rs u).slots k ≢ n
  pub job : (u k : ℕ) → u < M → u ≢ w → job_name (rs u).job k ≢ n
  pub field : (x f : ℕ) → Live σ c x → f < 4 → fd x f ≢ n
  pub own : (f : ℕ) → f < 4 → fd n f ≡ none

-- the same in a store
abbrev pub FreshIn : Stage → St → ℕ → ℕ → Type 0
FreshIn σ s w n = Fresh σ s.N s.g s.M s.colour s.field s.rows w n

-- the second handshake is posted
abbrev pub IsAsk2 : Stage → Type 0
IsAsk2 rest = ⊥
IsAsk2 ask1 = ⊥
IsAsk2 ask2 = Unit {0}
IsAsk2 (roots p) = ⊥
IsAsk2 (scan p k h f) = ⊥
IsAsk2 (sweep p) = ⊥

-- Tidiness: what the jobs have grayed; every cell in the making is fresh; where the second handshake is posted, what stands
-- in a field over which a writer of status 2 has read another value is dark (this is why a second handshake comes before
-- stage 3); past N all fields are none; colours are 0 to 3.
pub record Tidy (σ : Stage) (s : St) : Type 0 where
  pub jobs : (w : ℕ) → w < s.M → JobDark σ s.colour (s.rows w).status (s.rows w).job
  pub fresh : (w n k : ℕ) (m : Made) → w < s.M → (s.rows w).job ≡ creating m n k → FreshIn σ s w n
  pub stale : IsAsk2 σ → (w x f : ℕ) → w < s.M → (s.rows w).status ≡ 2 → f < 4 → ¬ OldIs (s.rows w).job x f (s.field x f)
      → 2 ≤ s.colour (s.field x f)
  pub blank : (x f : ℕ) → s.N ≤ x → f < 4 → s.field x f ≡ none
  pub colours : (i : ℕ) → s.colour i ≤ 3
