-- Closure: every number that a page, a slot, a job or a field of a live cell holds is live. With it the table of statuses,
-- stage by stage.
use Rattle.std.specs.Prelude.{◌≡◌, ◌≢◌, ℕ, zero, suc, ◌-◌, ◌≤◌, ◌<◌}
use Rattle.moves.specs.Machine.{Stage, rest, ask1, ask2, roots, scan, sweep, Made, taken, kept, whiten, Job, idle}
use Rattle.moves.specs.Machine.{answering, storing, creating, Row, St}
use Rattle.moves.specs.Rows.{job_name}

-- The least colour of a live cell: in use, and ahead of the sweep not white. `omega` reads it.
abbrev pub floor : Stage → ℕ → ℕ
floor rest i = 1
floor ask1 i = 1
floor ask2 i = 1
floor (roots p) i = 1
floor (scan p k h f) i = 1
floor (sweep p) i = suc (1 - (p - i))

-- a cell that may be named: it is in use, and the sweep that is under way, if one is, will not free it
abbrev pub Live : Stage → (ℕ → ℕ) → ℕ → Type 0
Live σ c i = floor σ i ≤ c i

-- the statuses that a row may have in a stage
abbrev pub StatusFits : Stage → ℕ → Type 0
StatusFits rest n = n ≡ 0
StatusFits ask1 n = n ≤ 1
StatusFits ask2 n = (1 ≤ n) × (n ≤ 2)
StatusFits (roots p) n = (n ≤ 2) × (n ≢ 1)
StatusFits (scan p k h f) n = n ≡ 0
StatusFits (sweep p) n = n ≡ 0

-- Where a creation of n, in a row of status st, may have decided white: in stages 0 to 2; in stage 3 at status 2; in stage 5
-- behind the place.
abbrev pub MayWhiten : Stage → ℕ → ℕ → Type 0
MayWhiten rest st n = Unit {0}
MayWhiten ask1 st n = Unit {0}
MayWhiten ask2 st n = Unit {0}
MayWhiten (roots p) st n = st ≡ 2
MayWhiten (scan p k h f) st n = ⊥
MayWhiten (sweep p) st n = n < p

-- a creation's decision fits the stage
abbrev pub MadeFits : Made → Stage → ℕ → ℕ → Type 0
MadeFits taken σ st n = Unit {0}
MadeFits kept σ st n = Unit {0}
MadeFits whiten σ st n = MayWhiten σ st n

-- where a row may be in the middle of an answer: in stage 3, with status 2
abbrev pub MayAnswer : Stage → ℕ → Type 0
MayAnswer rest st = ⊥
MayAnswer ask1 st = ⊥
MayAnswer ask2 st = ⊥
MayAnswer (roots p) st = st ≡ 2
MayAnswer (scan p k h f) st = ⊥
MayAnswer (sweep p) st = ⊥

-- a job fits the stage and the status; a creation is of a cell of the store
abbrev pub JobFits : Stage → ℕ → ℕ → Job → Type 0
JobFits σ N st idle = Unit {0}
JobFits σ N st (answering i) = MayAnswer σ st
JobFits σ N st (storing p ph c f v o) = Unit {0}
JobFits σ N st (creating m n i) = (n < N) × MadeFits m σ st n

-- the open cell is gray, and the hold in use
abbrev pub Open : Stage → (ℕ → ℕ) → Type 0
Open rest c = Unit {0}
Open ask1 c = Unit {0}
Open ask2 c = Unit {0}
Open (roots p) c = Unit {0}
Open (scan p zero h f) c = 1 ≤ c h
Open (scan p (suc k) h f) c = (c p ≡ 2) × (1 ≤ c h)
Open (sweep p) c = Unit {0}

-- What closure says of a row: its status and job fit the stage, its slots and the numbers of its job are live. It is stated
-- over what it depends on, not over the store: a move that leaves that leaves the statement, by computation.
pub record RowOK (σ : Stage) (N : ℕ) (c : ℕ → ℕ) (r : Row) : Type 0 where
  pub status : StatusFits σ r.status
  pub slots : (k : ℕ) → k < 8 → Live σ c (r.slots k)
  pub names : (k : ℕ) → Live σ c (job_name r.job k)
  pub fits : JobFits σ N r.status r.job

-- Closure: what pages, fields of live cells, slots and jobs name is live. Besides: N is at most 4,096, past
-- N every number is black, the open cell is gray and the hold in use.
pub record Closed (σ : Stage) (s : St) : Type 0 where
  pub room : s.N ≤ 4096
  pub nil : (i : ℕ) → s.N ≤ i → s.colour i ≡ 3
  pub pages : (p : ℕ) → p < s.g → Live σ s.colour p
  pub fields : (x f : ℕ) → Live σ s.colour x → f < 4 → Live σ s.colour (s.field x f)
  pub rows : (w : ℕ) → w < s.M → RowOK σ s.N s.colour (s.rows w)
  pub «open» : Open σ s.colour
