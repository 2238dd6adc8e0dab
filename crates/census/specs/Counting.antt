-- What the pass over the colours makes, and the census as it is made by value.
use Rattle.std.specs.Prelude.{ℕ, List, [], ◌∷◌, length, take, Result, Ok, Err}
use Rattle.machine.specs.Choice.{all, refuse}
use Rattle.machine.specs.Limits.{sizes_ok}
use Rattle.machine.specs.Range.{record_ok, row_ok, value_ok, colour_ok}
use Rattle.machine.specs.Store.{parts}
use Rattle.machine.specs.Census.{tally, counts}
use Rattle.machine.specs.declared.Record.{Record}
use Rattle.machine.specs.declared.Row.{Row}
use Rattle.machine.specs.declared.Counts.{Counts}
use Rattle.machine.specs.declared.Refusal.{Refusal}
use Rattle.machine.specs.declared.Refusal.TheVariants.{BadSize, BadNumber}
use Rattle.census.specs.declared.counts.Shades.{Shades}

-- how many cells have each colour
abbrev pub shades : List ℕ → Shades
shades colours = record { free = tally 0 colours; white = tally 1 colours; gray = tally 2 colours; black = tally 3 colours }

-- the record, the number of rows, and rows of which so many are the desk's
unfoldable pub census_by : Record → ℕ → List Row → List ℕ → List ℕ → Result Counts Refusal
census_by rec rows own fields colours =
    refuse Err
    ((sizes_ok rec.n rec.g rec.m rows (length fields) (length colours), BadSize)
    ∷ (record_ok rec, BadNumber)
    ∷ (all (row_ok rec.n) (take rows own), BadNumber)
    ∷ (all (value_ok rec.n) fields, BadNumber)
    ∷ (all colour_ok colours, BadNumber)
    ∷ [])
    (Ok (counts (parts rec (take rows own) fields colours)))
