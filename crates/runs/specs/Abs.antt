-- The machine's store as a store of moves, and what a turn leaves of it.
use Rattle.std.specs.Prelude.{ℕ, zero, suc, ◌+◌, ◌*◌, ◌≡◌, cond, ◌⊎◌, List, ltb, length, get_or, Some, None, Option}
use Rattle.moves.specs.Moves.{work}
use Rattle.moves.specs.Machine as Abstract
use Rattle.moves.specs.Moves.{Move, stage', after}
use Rattle.machine.specs.Limits.{none}
use Rattle.machine.specs.Store.{Store, Outcome, fresh_row}
use Rattle.machine.specs.Machine.{row_of}
use Rattle.machine.specs.Run.{works}
use Rattle.machine.specs.declared.Record.{Record}
use Rattle.machine.specs.declared.Row.{Row}
use Rattle.machine.specs.declared.Stored.{Stored}
use Rattle.machine.specs.declared.Plan.{Plan}
use Rattle.machine.specs.declared.Plan.TheVariants.{FullRead, FullOld, FullNew, FullWrite, TracedRead, TracedOld, TracedWrite, BareWrite}
use Rattle.machine.specs.declared.Look.{Look}
use Rattle.machine.specs.declared.Look.TheVariants.{Ahead, Keep, White}
use Rattle.machine.specs.declared.Work.TheVariants.{Answering, Storing, Creating}
use Rattle.machine.specs.declared.Work.{Work}
use Rattle.machine.specs.Answer.{Answered}

-- ---- the store as a store of moves
-- the record's stage with the numbers that the stage uses
abbrev pub stage_at : ℕ → ℕ → ℕ → ℕ → ℕ → Abstract.Stage
stage_at zero p k h f = Abstract.rest
stage_at (suc zero) p k h f = Abstract.ask1
stage_at (suc (suc zero)) p k h f = Abstract.ask2
stage_at (suc (suc (suc zero))) p k h f = Abstract.roots p
stage_at (suc (suc (suc (suc zero)))) p k h f = Abstract.scan p k h f
stage_at (suc (suc (suc (suc (suc _))))) p k h f = Abstract.sweep p

abbrev pub stage_in : Record → Abstract.Stage
stage_in r = stage_at r.stage r.place r.part r.hold r.found

-- what a creation's look has decided
abbrev pub abs_look : Look → Abstract.Made
abs_look Ahead = Abstract.taken
abs_look Keep = Abstract.kept
abs_look White = Abstract.whiten

-- a store's plan, and its next turn
abbrev pub plan_in : Plan → Abstract.Plan
plan_in FullRead = Abstract.full
plan_in FullOld = Abstract.full
plan_in FullNew = Abstract.full
plan_in FullWrite = Abstract.full
plan_in TracedRead = Abstract.trace
plan_in TracedOld = Abstract.trace
plan_in TracedWrite = Abstract.trace
plan_in BareWrite = Abstract.bare

abbrev pub phase_in : Plan → Abstract.Phase
phase_in FullRead = Abstract.reading
phase_in FullOld = Abstract.graying_old
phase_in FullNew = Abstract.graying_new
phase_in FullWrite = Abstract.writing
phase_in TracedRead = Abstract.reading
phase_in TracedOld = Abstract.graying_old
phase_in TracedWrite = Abstract.writing
phase_in BareWrite = Abstract.writing

-- a store's job
abbrev pub abs_stored : Stored → Plan → Abstract.Job
abs_stored s p = Abstract.storing (plan_in p) (phase_in p) s.cell s.field s.new s.old

-- a job
abbrev pub abs_job : Option Work → Abstract.Job
abs_job None = Abstract.idle
abs_job (Some (Answering k)) = Abstract.answering k
abs_job (Some (Storing s p)) = abs_stored s p
abs_job (Some (Creating m)) = Abstract.creating (abs_look m.look) m.cell m.slot

-- a row; past the eighth slot there is none
abbrev pub abs_row : Row → Abstract.Row
abs_row r = record { status = r.status; slots = λ k. get_or r.slots k none; job = abs_job r.job }

-- field f of cell x; none for a cell or a field that isn't there
abbrev pub abs_fields : List ℕ → ℕ → ℕ → ℕ
abs_fields l x f = cond (ltb f 4) (get_or l (x * 4 + f) none) none

-- the whole store; a number that is no cell is black with empty fields
abbrev pub abs : Store → Abstract.St
abs st = record {
  N = st.rec.n;
  g = st.rec.g;
  M = st.rec.m;
  count = st.rec.count;
  colour = λ i. get_or st.colours i 3;
  field = abs_fields st.fields;
  rows = λ w. abs_row (row_of st w);
}

-- ---- what refusal 1 leaves
pub record Fit (st : Store) : Type 0 where
  pub desk : length st.desk ≡ st.rec.m
  pub fields : length st.fields ≡ st.rec.n * 4
  pub colours : length st.colours ≡ st.rec.n

-- every row has eight slots: the type `[u16; 8]` says so, and a list in the machine's definition doesn't
abbrev pub Eight : List Row → Type 0
Eight d = (w : ℕ) → length (get_or d w fresh_row).slots ≡ 8

-- ---- what a turn leaves
-- one move, a working one if the answer is worked
abbrev pub Moved : Store → Outcome Answered → Type 0
Moved st o =
    (mv : Move (abs st) (stage_in st.rec)) × (abs o.store ≡ after mv) × (stage_in o.store.rec ≡ stage' mv)
    × (work mv ≡ works o.answer) × Eight o.store.desk

-- one move, or everything as it was
abbrev pub Steps : Store → Outcome Answered → Type 0
Steps st o = Moved st o ⊎ ((o.store ≡ st) × (works o.answer ≡ 0))
