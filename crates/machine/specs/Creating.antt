-- "Create into slot s, 3 turns."
use Rattle.std.specs.Prelude.{ℕ, ◌+◌, List, [], ◌∷◌, ltb, eqb, Result, Ok, Err, Some, None}
use Rattle.machine.specs.Choice.{pick, refuse, differ}
use Rattle.machine.specs.Limits.{none}
use Rattle.machine.specs.Stage.{hand}
use Rattle.machine.specs.Range.{colour_ok}
use Rattle.machine.specs.Parts.{with_field, with_colour, with_slot, with_job}
use Rattle.machine.specs.Turns.{RowTurn, done, more, refused, admitted, Written, written}
use Rattle.machine.specs.declared.Record.{Record}
use Rattle.machine.specs.declared.Row.{Row}
use Rattle.machine.specs.declared.Made.{Made}
use Rattle.machine.specs.declared.Look.{Look}
use Rattle.machine.specs.declared.Look.TheVariants.{Ahead, Keep, White}
use Rattle.machine.specs.declared.Refusal.{Refusal}
use Rattle.machine.specs.declared.Work.TheVariants.{Creating}
use Rattle.machine.specs.declared.Refusal.TheVariants.{BadNumber, NoSuch, Full}

-- the row with the job of a creation
abbrev pub creating : Row → ℕ → ℕ → Look → Row
creating row s n l = with_job row (Some (Creating (record { slot = s; cell = n; look = l })))

-- "the lowest-numbered free cell"; "Take reads colours upward, and a byte above 3 met before a free cell is refusal 2": the
-- colours from cell i on
unfoldable pub lowest_free : ℕ → List ℕ → Result ℕ Refusal
lowest_free i [] = Err Full
lowest_free i (b ∷ bs) = pick (eqb b 0) (Ok i) (pick (colour_ok b) (lowest_free (i + 1) bs) (Err BadNumber))

-- "its fields none"
unfoldable pub emptied : List ℕ → ℕ → List ℕ
emptied fields n = with_field (with_field (with_field (with_field fields n 0 none) n 1 none) n 2 none) n 3 none

-- "Take: the lowest-numbered free cell n becomes black, its fields none. .. Until the look the job says keep": the look is ahead
unfoldable pub take_cell : Row → List ℕ → List ℕ → ℕ → ℕ → Written
take_cell row fields colours s n =
    written (more (creating row s n Ahead)) (emptied fields n) (with_colour colours n 3)

-- "7: create with no free cell"
unfoldable pub take : Row → List ℕ → List ℕ → ℕ → Result ℕ Refusal → Written
take row fields colours s (Ok n) = take_cell row fields colours s n
take row fields colours s (Err k) = written (refused row k) fields colours

unfoldable pub create : Record → Row → List ℕ → List ℕ → ℕ → Written
create rec row fields colours s =
    refuse (λ k. written (refused row k) fields colours) ((ltb s 8, NoSuch) ∷ admitted rec row [])
    (take row fields colours s (lowest_free 0 colours))

-- "Look: decide white if the status isn't 0 or n < hand; else keep."
unfoldable pub decided : Record → Row → ℕ → Look
decided rec row n = pick (differ row.status 0) White (pick (ltb n (hand rec)) White Keep)

unfoldable pub look : Record → Row → Made → RowTurn
look rec row m = more (creating row m.slot m.cell (decided rec row m.cell))

-- "Finish: if white was decided, n becomes white; slot s becomes n."
abbrev pub finished : Row → Made → RowTurn
finished row m = done (with_job (with_slot row m.slot m.cell) None)

unfoldable pub next_creating : Record → Row → List ℕ → List ℕ → Made → Look → Written
next_creating rec row fields colours m Ahead = written (look rec row m) fields colours
next_creating rec row fields colours m Keep = written (finished row m) fields colours
next_creating rec row fields colours m White = written (finished row m) fields (with_colour colours m.cell 1)
