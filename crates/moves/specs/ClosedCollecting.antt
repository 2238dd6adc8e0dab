-- What the scan's end must find, so that the collector's moves keep closure: that all that is named is dark.
use Rattle.std.specs.Prelude.{ℕ, ◌≤◌, ◌<◌}
use Rattle.moves.specs.Machine.{Stage, St}
use Rattle.moves.specs.Collecting.{Collecting, opening, asked1, asked2, root, rooted, skip, opened, again, scanned}
use Rattle.moves.specs.Collecting.{hold, gray-hold, done, swept, closing}
use Rattle.moves.specs.Rows.{job_name}

-- What the scan's end finds: all that is named by pages, slots, jobs and fields of dark cells is dark. So the white cells are
-- garbage, and the sweep may free them.
pub record Clean (s : St) : Type 0 where
  pub pages : (p : ℕ) → p < s.g → 2 ≤ s.colour p
  pub fields : (x f : ℕ) → 2 ≤ s.colour x → f < 4 → 2 ≤ s.colour (s.field x f)
  pub slots : (w k : ℕ) → w < s.M → k < 8 → 2 ≤ s.colour ((s.rows w).slots k)
  pub names : (w k : ℕ) → w < s.M → 2 ≤ s.colour (job_name (s.rows w).job k)

-- what closure asks of a collector's move: at the scan's end that all that is named is dark, else nothing
abbrev pub NeedsClean : {s : St} {σ : Stage} → Collecting s σ → Type 0
NeedsClean {s} opening = Unit {0}
NeedsClean {s} (asked1 a) = Unit {0}
NeedsClean {s} (asked2 a) = Unit {0}
NeedsClean {s} (root p l) = Unit {0}
NeedsClean {s} (rooted a) = Unit {0}
NeedsClean {s} (skip p f l n) = Unit {0}
NeedsClean {s} (opened p f l e) = Unit {0}
NeedsClean {s} again = Unit {0}
NeedsClean {s} scanned = Clean s
NeedsClean {s} (hold p k f l) = Unit {0}
NeedsClean {s} (gray-hold p k h f l) = Unit {0}
NeedsClean {s} (done p f l) = Unit {0}
NeedsClean {s} (swept p l) = Unit {0}
NeedsClean {s} closing = Unit {0}
