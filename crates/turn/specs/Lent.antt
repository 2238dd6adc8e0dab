-- The machine's calls as the lent forms make them: the row, the record and what is seen of the desk by value, with the refusals that
-- come before the turn. Laws.antt in proofs/ leads from these to the machine.
use Rattle.std.specs.Prelude.{ℕ, ◌-◌, Bool, true, List, [], ◌∷◌, ◌++◌, length, take, replicate, ◌==◌, nat_le, nat_lt, Result, Ok, Err}
use Rattle.machine.specs.Choice.{pick, every, refuse}
use Rattle.machine.specs.Limits.{none, sizes_ok}
use Rattle.machine.specs.Store.{fresh_record}
use Rattle.machine.specs.Stage.{posted}
use Rattle.machine.specs.Turns.{Written, written, refused, Collected}
use Rattle.machine.specs.Writer.{turn_of}
use Rattle.machine.specs.Collector.{survey, barred, collector_turn}
use Rattle.machine.specs.declared.Record.{Record}
use Rattle.machine.specs.declared.Row.{Row}
use Rattle.machine.specs.declared.Call.{Call}
use Rattle.machine.specs.declared.Refusal.{Refusal}
use Rattle.machine.specs.declared.Refusal.TheVariants.{BadSize, NoSuch}

-- ---- a writer's call, on a desk of so many rows of which row w is taken out
unfoldable pub writing : Record → ℕ → ℕ → Row → List ℕ → List ℕ → Call → Written
writing rec rows w row fields colours call =
    refuse (λ k. written (refused row k) fields colours)
    ((sizes_ok rec.n rec.g rec.m rows (length fields) (length colours), BadSize) ∷ (nat_lt w rec.m, NoSuch) ∷ [])
    (turn_of rec row fields colours call)

-- ---- the collector's call, on a desk of so many rows of which it has seen this
unfoldable pub collecting : Record → ℕ → Result Bool Refusal → List ℕ → List ℕ → Collected
collecting rec rows seen fields colours =
    refuse (barred rec colours)
    ((sizes_ok rec.n rec.g rec.m rows (length fields) (length colours), BadSize) ∷ [])
    (collector_turn rec seen fields colours)

-- whether this turn is a waiting test, and so how many rows it reads
unfoldable pub waits : Record → Bool
waits rec =
    pick (rec.stage == 1) true
    (pick (rec.stage == 2) true
    (every ((rec.stage == 3) ∷ nat_le rec.g rec.place ∷ [])))

unfoldable pub rows_read : Record → ℕ → ℕ
rows_read rec rows = pick (waits rec) rows 0

-- what it finds in their statuses
unfoldable pub seen : Record → List Row → Result Bool Refusal
seen rec desk = survey (posted rec.stage) (take (rows_read rec (length desk)) desk)

-- ---- start: the record that it begins with, and the fields and colours after it
pub record Begun : Type 0 where
  pub started : Result Record Refusal
  pub fields : List ℕ
  pub colours : List ℕ

abbrev pub begun : Result Record Refusal → List ℕ → List ℕ → Begun
begun s fields colours = record { started = s; fields = fields; colours = colours }

unfoldable pub beginning : ℕ → ℕ → ℕ → ℕ → List ℕ → List ℕ → Begun
beginning n g m rows fields colours =
    refuse (λ k. begun (Err k) fields colours)
    ((sizes_ok n g m rows (length fields) (length colours), BadSize) ∷ [])
    (begun (Ok (fresh_record n g m))
    (replicate (length fields) none)
    (replicate g 1 ++ replicate (length colours - g) 0))

-- ---- the desk of who keeps eight rows: the first M of them
unfoldable pub own_rows : ℕ → ℕ
own_rows m = pick (nat_lt m 8) m 8
