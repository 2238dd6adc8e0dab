-- "Collector turns. The turn is chosen by stage, and in stage 4 by the part, 0 to 9."
use Rattle.std.specs.Prelude.{ℕ, ◌+◌, ◌/◌, List, [], ◌∷◌, Bool, ltb, eqb, Result, Ok, Err}
use Rattle.machine.specs.Choice.{pick, among, all, refuse}
use Rattle.machine.specs.Limits.{none}
use Rattle.machine.specs.Range.{value_ok, record_ok, status_ok, colour_ok}
use Rattle.machine.specs.Parts.{field_of, colour_of, with_colour, with_stage, with_place, with_part, with_hold, with_found, with_count}
use Rattle.machine.specs.Turns.{RecordTurn, worked, waited, stopped, Collected, collected}
use Rattle.machine.specs.Gray.{grayed, gray_ok}
use Rattle.machine.specs.declared.Record.{Record}
use Rattle.machine.specs.declared.Row.{Row}
use Rattle.machine.specs.declared.Answer.TheVariants.{Worked}
use Rattle.machine.specs.declared.Refusal.{Refusal}
use Rattle.machine.specs.declared.Refusal.TheVariants.{BadNumber}

-- "in a waiting test, the statuses of all rows, even past one that differs"; "all statuses equal the posted number"
unfoldable pub has_status : ℕ → Row → Bool
has_status number row = eqb row.status number

unfoldable pub survey : ℕ → List Row → Result Bool Refusal
survey number desk = refuse Err ((all status_ok desk, BadNumber) ∷ []) (Ok (all (has_status number) desk))

-- the record at the beginning of a stage: place 0, found 0
abbrev pub entering : Record → ℕ → Record
entering rec stage = with_found (with_place (with_stage rec stage) 0) 0

abbrev pub barred : Record → List ℕ → Refusal → Collected
barred rec colours k = collected (stopped rec k) colours

-- "Stage 0: go to stage 1, count := 1 (opening). Every later working turn adds 1."
unfoldable pub opening : Record → RecordTurn
opening rec = record { answer = Ok Worked; rec = with_count (with_stage rec 1) 1 }

-- "Stages 1, 2: if all statuses equal the posted number, next stage with place 0; else the turn waits and changes nothing."
unfoldable pub waiting : Record → Result Bool Refusal → ℕ → RecordTurn
waiting rec (Ok same) stage = pick same (worked (entering rec stage)) (waited rec)
waiting rec (Err k) stage = stopped rec k

-- "Stage 3: place < g: gray page place, place + 1. At g: if all statuses are 0, stage 4 with place 0 and found 0; else wait."
unfoldable pub marking : Record → Result Bool Refusal → List ℕ → Collected
marking rec seen colours =
    pick (ltb rec.place rec.g)
    (refuse (barred rec colours) ((gray_ok colours rec.place, BadNumber) ∷ [])
    (collected (worked (with_place rec (rec.place + 1))) (grayed colours rec.place)))
    (collected (waiting rec seen 4) colours)

-- "Stage 4, part 0: at place N, if found, found := 0 and place := 0; else stage 5, place 0."
unfoldable pub end_pass : Record → RecordTurn
end_pass rec = pick (eqb rec.found 0) (worked (entering rec 5)) (worked (with_found (with_place rec 0) 0))

-- "Below N: a gray cell is opened (found := 1, part := 1); any other adds 1 to the place."
unfoldable pub scan_place : Record → List ℕ → Collected
scan_place rec colours =
    pick (ltb rec.place rec.n)
    (refuse (barred rec colours) ((colour_ok (colour_of colours rec.place), BadNumber) ∷ [])
    (pick (eqb (colour_of colours rec.place) 2)
    (collected (worked (with_found (with_part rec 1) 1)) colours)
    (collected (worked (with_place rec (rec.place + 1))) colours)))
    (collected (end_pass rec) colours)

-- "Parts 1, 3, 5, 7: hold := field 0, 1, 2, 3. .. Each adds 1 to the part."
unfoldable pub scan_hold : Record → List ℕ → List ℕ → Collected
scan_hold rec fields colours =
    refuse (barred rec colours) ((value_ok rec.n (field_of fields rec.place (rec.part / 2)), BadNumber) ∷ [])
    (collected (worked (with_hold (with_part rec (rec.part + 1)) (field_of fields rec.place (rec.part / 2)))) colours)

-- "Parts 2, 4, 6, 8: gray the hold, hold := none. Each adds 1 to the part."
unfoldable pub scan_gray : Record → List ℕ → Collected
scan_gray rec colours =
    refuse (barred rec colours) ((gray_ok colours rec.hold, BadNumber) ∷ [])
    (collected (worked (with_hold (with_part rec (rec.part + 1)) none)) (grayed colours rec.hold))

-- "Part 9: the cell becomes black, place + 1, part 0." It reads no colour.
unfoldable pub scan_close : Record → List ℕ → Collected
scan_close rec colours =
    collected (worked (with_part (with_place rec (rec.place + 1)) 0)) (with_colour colours rec.place 3)

unfoldable pub scanning : Record → List ℕ → List ℕ → ℕ → Collected
scanning rec fields colours part =
    pick (eqb part 0) (scan_place rec colours)
    (pick (among (1 ∷ 3 ∷ 5 ∷ 7 ∷ []) part) (scan_hold rec fields colours)
    (pick (among (2 ∷ 4 ∷ 6 ∷ 8 ∷ []) part) (scan_gray rec colours) (scan_close rec colours)))

-- "white becomes free, black becomes white, gray and free stay"
unfoldable pub swept : ℕ → ℕ
swept b = pick (eqb b 1) 0 (pick (eqb b 3) 1 b)

-- "Stage 5: below N, ..; place + 1. At N: stage 0, place 0 (closing); the count stays until the next opening."
unfoldable pub sweeping : Record → List ℕ → Collected
sweeping rec colours =
    pick (ltb rec.place rec.n)
    (refuse (barred rec colours) ((colour_ok (colour_of colours rec.place), BadNumber) ∷ [])
    (collected (worked (with_place rec (rec.place + 1)))
    (with_colour colours rec.place (swept (colour_of colours rec.place)))))
    (collected (worked (entering rec 0)) colours)

unfoldable pub by_stage : Record → Result Bool Refusal → List ℕ → List ℕ → ℕ → Collected
by_stage rec seen fields colours stage =
    pick (eqb stage 0) (collected (opening rec) colours)
    (pick (eqb stage 1) (collected (waiting rec seen 2) colours)
    (pick (eqb stage 2) (collected (waiting rec seen 3) colours)
    (pick (eqb stage 3) (marking rec seen colours)
    (pick (eqb stage 4) (scanning rec fields colours rec.part) (sweeping rec colours)))))

-- the whole turn: 2 for the whole record, then by the stage
unfoldable pub collector_turn : Record → Result Bool Refusal → List ℕ → List ℕ → Collected
collector_turn rec seen fields colours =
    refuse (barred rec colours) ((record_ok rec, BadNumber) ∷ []) (by_stage rec seen fields colours rec.stage)
