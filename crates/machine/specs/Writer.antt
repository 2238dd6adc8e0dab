-- The turns of one writer's row: next, and the call by its name.
use Rattle.std.specs.Prelude.{ℕ, List, [], ◌∷◌, Some, None, Option}
use Rattle.machine.specs.Choice.{refuse}
use Rattle.machine.specs.Turns.{refused, sound_ok, Written, written}
use Rattle.machine.specs.Slots.{page, copy, drop, read}
use Rattle.machine.specs.Answering.{answer, next_answering}
use Rattle.machine.specs.Storing.{store, next_storing}
use Rattle.machine.specs.Creating.{create, next_creating}
use Rattle.machine.specs.declared.Record.{Record}
use Rattle.machine.specs.declared.Row.{Row}
use Rattle.machine.specs.declared.Work.{Work}
use Rattle.machine.specs.declared.Work.TheVariants.{Answering, Storing, Creating}
use Rattle.machine.specs.declared.Call.{Call}
use Rattle.machine.specs.declared.Refusal.TheVariants.{BadNumber, NoTurn}

-- "The others start a job or, by next, do its next turn."
unfoldable pub next_work : Record → Row → List ℕ → List ℕ → Work → Written
next_work rec row fields colours (Answering k) = next_answering row fields colours k
next_work rec row fields colours (Storing s p) = next_storing rec.n row fields colours s p
next_work rec row fields colours (Creating m) = next_creating rec row fields colours m m.look

-- "5: next without a job"
unfoldable pub next_job : Record → Row → List ℕ → List ℕ → Option Work → Written
next_job rec row fields colours None = written (refused row NoTurn) fields colours
next_job rec row fields colours (Some w) = next_work rec row fields colours w

unfoldable pub next : Record → Row → List ℕ → List ℕ → Written
next rec row fields colours =
    refuse (λ k. written (refused row k) fields colours) ((sound_ok rec row, BadNumber) ∷ [])
    (next_job rec row fields colours row.job)

unfoldable pub turn_of : Record → Row → List ℕ → List ℕ → Call → Written
turn_of rec row fields colours (Call.Page p s) = written (page rec row p s) fields colours
turn_of rec row fields colours (Call.Copy r s) = written (copy rec row r s) fields colours
turn_of rec row fields colours (Call.Drop r) = written (drop rec row r) fields colours
turn_of rec row fields colours (Call.Read r f s) = written (read rec row fields r f s) fields colours
turn_of rec row fields colours (Call.Store r f q) = written (store rec row r f q) fields colours
turn_of rec row fields colours (Call.Create s) = create rec row fields colours s
turn_of rec row fields colours Call.Answer = written (answer rec row) fields colours
turn_of rec row fields colours Call.Next = next rec row fields colours
