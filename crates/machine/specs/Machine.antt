-- THE MACHINE: what each public call makes of the lent parts. Every public contract is `Meets` of its call.
use Rattle.std.specs.Prelude.{ℕ, ◌≡◌, [], ◌∷◌, get_or, set, ltb, Result}
use Rattle.machine.specs.Choice.{refuse}
use Rattle.machine.specs.Stage.{posted}
use Rattle.machine.specs.Store.{Store, Outcome, outcome, refusing, fits_record, fresh_row, start}
use Rattle.machine.specs.Turns.{Written, Collected}
use Rattle.machine.specs.Writer.{turn_of}
use Rattle.machine.specs.Collector.{survey, collector_turn}
use Rattle.machine.specs.Census.{census}
use Rattle.machine.specs.Answer.{Said, said_by, said_by_census}
use Rattle.machine.specs.declared.Row.{Row}
use Rattle.machine.specs.declared.Call.{Call}
use Rattle.machine.specs.Answer.{Answered}
use Rattle.machine.specs.declared.Counts.{Counts}
use Rattle.machine.specs.declared.Refusal.{Refusal}
use Rattle.machine.specs.declared.Refusal.TheVariants.{BadSize, NoSuch}

-- writer w's row; the row goes back to its place, with the fields and colours after its turn
abbrev pub row_of : Store → ℕ → Row
row_of st w = get_or st.desk w fresh_row

abbrev pub put_row : Store → ℕ → Written → Outcome Answered
put_row st w o =
    outcome o.turn.answer
    (record { rec = st.rec; desk = set st.desk w o.turn.row; fields = o.fields; colours = o.colours })

-- A writer's call: 1; 3 for the writer; then its row's turn, which begins with 3 for slot, field and page.
unfoldable pub write : ℕ → Call → Store → Outcome Answered
write w call st =
    refuse (refusing st) ((fits_record st, BadSize) ∷ (ltb w st.rec.m, NoSuch) ∷ [])
    (put_row st w (turn_of st.rec (row_of st w) st.fields st.colours call))

-- the record goes back, with the colours after the collector's turn
abbrev pub put_record : Store → Collected → Outcome Answered
put_record st o =
    outcome o.turn.answer
    (record { rec = o.turn.rec; desk = st.desk; fields = st.fields; colours = o.colours })

-- The collector's call: 1; then its turn.
unfoldable pub collect : Store → Outcome Answered
collect st =
    refuse (refusing st) ((fits_record st, BadSize) ∷ [])
    (put_record st (collector_turn st.rec (survey (posted st.rec.stage) st.desk) st.fields st.colours))

-- One call is one turn, of one writer or of the collector.
pub data Turn : Type 0 where
  writer : ℕ → Call → Turn
  collector : Turn

unfoldable pub turn : Turn → Store → Outcome Answered
turn (writer w call) st = write w call st
turn collector st = collect st

-- the public calls, the enum that each answers with, and what that says
pub data Public : Type 0 where
  starting : ℕ → ℕ → ℕ → Public
  turning : Turn → Public
  counting : Public

abbrev pub Answers : Public → Type 0
Answers (starting n g m) = Answered
Answers (turning t) = Answered
Answers counting = Result Counts Refusal

abbrev pub said_in : (p : Public) → Answers p → Said
said_in (starting n g m) = said_by
said_in (turning t) = said_by
said_in counting = said_by_census

unfoldable pub outcome_of : (p : Public) → Store → Outcome (Answers p)
outcome_of (starting n g m) st = start n g m st
outcome_of (turning t) st = turn t st
outcome_of counting st = census st

-- The one shape of a public contract: what the answer says, and record, desk, fields and colours after the call, are the machine's.
pub record Meets (p : Public) (st : Store) (answer : Answers p) (after : Store) : Type 0 where
  pub says : said_in p answer ≡ said_in p (outcome_of p st).answer
  pub leaves : after ≡ (outcome_of p st).store
