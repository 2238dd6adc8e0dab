-- Protection: while the collector traces, every number that is named is dark already, or a path still leads the collector to
-- it.
use Rattle.std.specs.Prelude.{◌≡◌, ◌≢◌, ℕ, suc, ◌+◌, ◌≤◌, ◌<◌}
use Rattle.moves.specs.Machine.{Stage, rest, ask1, ask2, roots, scan, sweep, bare, trace, full, Phase, reading}
use Rattle.moves.specs.Machine.{graying_old, graying_new, writing, Job, idle, answering, storing, creating, Row, St}
use Rattle.moves.specs.Rows.{job_name}

-- the stage is tracing, as a statement
abbrev pub Tracing : Stage → Type 0
Tracing rest = ⊥
Tracing ask1 = ⊥
Tracing ask2 = ⊥
Tracing (roots p) = Unit {0}
Tracing (scan p k h f) = Unit {0}
Tracing (sweep p) = ⊥

-- where the collector will still come by itself: in stage 3 a page at the place or past it, in stage 4 the hold
abbrev pub Source : Stage → ℕ → ℕ → Type 0
Source rest g v = ⊥
Source ask1 g v = ⊥
Source ask2 g v = ⊥
Source (roots p) g v = (p ≤ v) × (v < g)
Source (scan p k h f) g v = v ≡ h
Source (sweep p) g v = ⊥

-- the collector has not yet read field f of x: x is not open, or the part has not passed f
abbrev pub Unread : Stage → ℕ → ℕ → Type 0
Unread rest x f = Unit {0}
Unread ask1 x f = Unit {0}
Unread ask2 x f = Unit {0}
Unread (roots p) x f = Unit {0}
Unread (scan p k h _) x f = x ≡ p → k < suc (suc (f + f))
Unread (sweep p) x f = Unit {0}

-- if a store to field k of c has read its old value o, and (c, k) is (x, f), then o is v
abbrev pub OldAt : Phase → ℕ → ℕ → ℕ → ℕ → ℕ → ℕ → Type 0
OldAt reading c k o x f v = Unit {0}
OldAt graying_old c k o x f v = c ≡ x → k ≡ f → o ≡ v
OldAt graying_new c k o x f v = c ≡ x → k ≡ f → o ≡ v
OldAt writing c k o x f v = c ≡ x → k ≡ f → o ≡ v

-- the same of a job; a bare store reads no old value
abbrev pub OldIs : Job → ℕ → ℕ → ℕ → Type 0
OldIs idle x f v = Unit {0}
OldIs (answering i) x f v = Unit {0}
OldIs (storing bare ph c k n o) x f v = Unit {0}
OldIs (storing trace ph c k n o) x f v = OldAt ph c k o x f v
OldIs (storing full ph c k n o) x f v = OldAt ph c k o x f v
OldIs (creating m n i) x f v = Unit {0}

-- no writer is in the middle of a store to field f of x with an old value that is not v
abbrev pub Solid : ℕ → (ℕ → Row) → ℕ → ℕ → ℕ → Type 0
Solid M rs x f v = (w : ℕ) → w < M → OldIs (rs w).job x f v

-- A number is guarded: it is dark; or the collector will come to it; or it is in a field, still to be read and solid, of a
-- guarded cell that is not black. No path goes on through a black cell. It is stated over the parts of the store
-- that it depends on, and never decided; `v ≡ fd x f` is an argument and not the index, so that rewriting is free.
pub data GuardIn (σ : Stage) (g M : ℕ) (c : ℕ → ℕ) (fd : ℕ → ℕ → ℕ) (rs : ℕ → Row) : ℕ → Type 0 where
  dark : {v : ℕ} → 2 ≤ c v → GuardIn σ g M c fd rs v
  source : {v : ℕ} → Source σ g v → GuardIn σ g M c fd rs v
  edge : {v : ℕ} (x f : ℕ) → GuardIn σ g M c fd rs x → c x ≢ 3 → Unread σ x f → Solid M rs x f (fd x f) → f < 4 → v ≡ fd x f
      → GuardIn σ g M c fd rs v

-- a number is guarded in a store
abbrev pub Guard : Stage → St → ℕ → Type 0
Guard σ s v = GuardIn σ s.g s.M s.colour s.field s.rows v

-- What is asked of a row, of any property Q of numbers: at status 0 its slots and what its job carries have it; in an answer
-- the slots that are grayed already have it.
pub record RowGuard (Q : ℕ → Type 0) (r : Row) : Type 0 where
  pub slots : r.status ≡ 0 → (k : ℕ) → k < 8 → Q (r.slots k)
  pub names : r.status ≡ 0 → (k : ℕ) → Q (job_name r.job k)
  pub answered : (i k : ℕ) → r.job ≡ answering i → k < i → k < 8 → Q (r.slots k)

-- Protection. Guarded is: what the rows are asked for; what black cells name; what the scan has read of the open cell; what a
-- field holds over which a store has read another value; every page.
pub record Guarded (σ : Stage) (s : St) : Type 0 where
  pub rows : (w : ℕ) → w < s.M → RowGuard (Guard σ s) (s.rows w)
  pub blacks : (x f : ℕ) → s.colour x ≡ 3 → f < 4 → Guard σ s (s.field x f)
  pub passed : (x f : ℕ) → f < 4 → ¬ Unread σ x f → Guard σ s (s.field x f)
  pub loose : (w x f : ℕ) → w < s.M → f < 4 → ¬ OldIs (s.rows w).job x f (s.field x f) → Guard σ s (s.field x f)
  pub pages : (p : ℕ) → p < s.g → Guard σ s p
