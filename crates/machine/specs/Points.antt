-- "Points on both sides": every point marked ◆, and runs that the "Shortcuts that lose a keyframe" would change, as one list under one
-- statement about the machine's definition. The machine is computed; only the lengths of lent parts are premises.
use Rattle.std.specs.Prelude.{ℕ, ◌*◌, ◌≡◌, refl, List, [], ◌∷◌, ◌++◌, Bool, true, false, length, replicate, Err, Ok}
use Rattle.std.proofs.Common.{eq-eqb}
use Rattle.machine.specs.Choice.{pick, all, every, refuse}
use Rattle.machine.specs.Limits.{limits_ok, lengths_ok, sizes_ok}
use Rattle.machine.specs.Stage.{posted, tracing, hand}
use Rattle.machine.specs.Range.{place_ok, part_ok, value_ok, hold_ok, found_ok, record_ok, status_ok, colour_ok, stored_ok, made_ok, work_ok, job_ok, row_ok}
use Rattle.machine.specs.Parts.{with_status, with_slot, with_job}
use Rattle.machine.specs.Store.{Store, outcome, refusing, fits, fresh, start}
use Rattle.machine.specs.Turns.{sound_ok}
use Rattle.machine.specs.Slots.{page, copy, drop, read_cell, read}
use Rattle.machine.specs.Gray.{grayed, gray_ok}
use Rattle.machine.specs.Answering.{answer_to, answer, next_answering}
use Rattle.machine.specs.Storing.{plan_of, store_cell, store_slots, store, store_read, store_gray, store_write, next_storing}
use Rattle.machine.specs.Creating.{lowest_free, emptied, take_cell, take, create, decided, look, next_creating}
use Rattle.machine.specs.Writer.{next_work, next_job, next, turn_of}
use Rattle.machine.specs.Collector.{has_status, survey, opening, waiting, marking, end_pass, scan_place, scan_hold, scan_gray, scan_close, scanning, swept, sweeping, by_stage, collector_turn}
use Rattle.machine.specs.Machine.{write, collect, Turn, writer, collector, turn, row_of}
use Rattle.machine.specs.Run.{run, answers, working_turns, C}
use Rattle.machine.specs.declared.Call.{Call}
use Rattle.machine.specs.Answer.{Answered}
use Rattle.machine.specs.declared.Answer.TheVariants.{Done, More, Worked, Waited}
use Rattle.machine.specs.declared.Refusal.TheVariants.{BadSize, NoSuch, Busy, NoTurn}

infixr 20 ◌also◌
-- `starts n g m a`: start with these numbers, lent parts of the right lengths, answers a.
-- `bound n g c`: C is c for n cells and g pages.
-- The others are of a store of `cells` cells, one page and one writer, after the turns `before`:
-- `cycle cells before turns k colours`: it is at rest, these turns are one cycle of k working turns, and then the colours are these.
-- `takes cells before stage status turns says colours`: in this stage and at this status of the writer, these turns give these
-- answers, and then the colours are these.
pub data Point : Type 0 where
  starts : (n g m : ℕ) → Answered → Point
  bound : (n g c : ℕ) → Point
  cycle : (cells : ℕ) (before turns : List Turn) (k : ℕ) (colours : List ℕ) → Point
  takes : (cells : ℕ) (before : List Turn) (stage status : ℕ) (turns : List Turn) (says : List Answered) (colours : List ℕ) → Point

abbrev pub Lent : ℕ → ℕ → Store → Type 0
Lent n m st = (length st.desk ≡ m) × (length st.fields ≡ n * 4) × (length st.colours ≡ n)

-- what turns that begin at rest come to: the stages before and after them, the working turns, the count and the colours
pub record Cycled : Type 0 where
  pub from : ℕ
  pub working : ℕ
  pub to : ℕ
  pub count : ℕ
  pub colours : List ℕ

abbrev pub cycled : Store → List Turn → Cycled
cycled st turns = record {
  from = st.rec.stage;
  working = working_turns st turns;
  to = (run st turns).rec.stage;
  count = (run st turns).rec.count;
  colours = (run st turns).colours;
}

-- what turns of the writer come to: the stage and the status before them, the answers, and the colours
pub record Took : Type 0 where
  pub stage : ℕ
  pub status : ℕ
  pub says : List Answered
  pub colours : List ℕ

abbrev pub took : Store → List Turn → Took
took st turns = record {
  stage = st.rec.stage;
  status = (row_of st 0).status;
  says = answers st turns;
  colours = (run st turns).colours;
}

abbrev pub Met : Point → Type 0
Met (starts n g m a) = (st : Store) → Lent n m st → (start n g m st).answer ≡ a
Met (bound n g c) = C n g ≡ c
Met (cycle cells before turns k l) =
    cycled (run (fresh cells 1 1) before) turns ≡ record { from = 0; working = k; to = 0; count = k; colours = l }
Met (takes cells before stage status turns says l) =
    took (run (fresh cells 1 1) before) turns ≡ record { stage = stage; status = status; says = says; colours = l }

pub data AllMet : List Point → Type 0 where
  end : AllMet []
  ◌also◌ : {p : Point} {ps : List Point} → Met p → AllMet ps → AllMet (p ∷ ps)

-- ---- turns of the one writer
abbrev asks : Call → Turn
asks call = writer 0 call

abbrev nexts : ℕ → List Turn
nexts k = replicate k (asks Call.Next)

-- a cell created into slot 0 at rest; the page put into slot 0
abbrev creates : List Turn
creates = asks (Call.Create 0) ∷ nexts 2

abbrev drops : List Turn
drops = asks (Call.Drop 0) ∷ []

abbrev pages : List Turn
pages = asks (Call.Page 0 0) ∷ []

-- field 0 of the cell in slot 0 is to hold the cell in slot 0
abbrev stores : List Turn
stores = asks (Call.Store 0 0 0) ∷ []

-- the opening and two prompt answers; the third, to the end of its job; k turns of the collector
abbrev opened : List Turn
opened = collector ∷ asks Call.Answer ∷ []

abbrev asked : List Turn
asked = opened ++ collector ∷ asks Call.Answer ∷ collector ∷ []

abbrev traced : List Turn
traced = asked ++ asks Call.Answer ∷ nexts 9

abbrev collects : ℕ → List Turn
collects k = replicate k collector

-- ---- the points marked ◆
abbrev pub marked : List Point
marked =
    starts 4096 16 8 (Ok Done)
    ∷ starts 0 1 1 (Err BadSize)
    ∷ starts 4097 1 1 (Err BadSize)
    ∷ cycle 1 [] (traced ++ collects 17) 20 (1 ∷ [])
    ∷ bound 1 1 20
    ∷ cycle 2 (creates ++ drops) (traced ++ collects 20) 23 (1 ∷ 0 ∷ [])
    ∷ cycle 2 creates (traced ++ drops ++ collects 29) 32 (1 ∷ 1 ∷ [])
    ∷ cycle 2 (creates ++ traced ++ drops ++ collects 29) (traced ++ collects 20) 23 (1 ∷ 0 ∷ [])
    ∷ takes 1 (pages ++ opened) 1 1 (stores ++ nexts 4) (Ok More ∷ Ok More ∷ Ok More ∷ Ok More ∷ Ok Done ∷ []) (2 ∷ [])
    ∷ takes 1 (pages ++ traced ++ collects 2) 4 0 (stores ++ nexts 3) (Ok More ∷ Ok More ∷ Ok More ∷ Ok Done ∷ []) (2 ∷ [])
    ∷ takes 1 pages 0 0 (stores ++ nexts 1) (Ok More ∷ Ok Done ∷ []) (1 ∷ [])
    ∷ takes 1 [] 0 0 (asks Call.Answer ∷ []) (Err NoTurn ∷ []) (1 ∷ [])
    ∷ takes 1 asked 3 2 (asks Call.Answer ∷ nexts 9) (replicate 9 (Ok More) ++ Ok Done ∷ []) (1 ∷ [])
    ∷ takes 1 (pages ++ stores) 0 0 (asks (Call.Read 0 4 0) ∷ []) (Err NoSuch ∷ []) (1 ∷ [])
    ∷ takes 1 [] 0 0 drops (Ok Done ∷ []) (1 ∷ [])
    ∷ []

-- ---- a run that each shortcut would change, in 01's order (ending the scan early changes the cycles above)
-- cell 1 is linked from the page's field 0 alone, and the page is in slot 1
abbrev links : List Turn
links = creates ++ asks (Call.Page 0 1) ∷ asks (Call.Store 1 0 0) ∷ nexts 1 ++ drops

-- that field is to hold none
abbrev cuts : List Turn
cuts = asks (Call.Store 1 0 7) ∷ []

abbrev pub shortcuts : List Point
shortcuts =
    takes 1 opened 1 1 (collects 2) (Ok Worked ∷ Ok Waited ∷ []) (1 ∷ [])
    ∷ takes 2 (collects 1) 1 0 creates (Ok More ∷ Ok More ∷ Ok Done ∷ []) (1 ∷ 1 ∷ [])
    ∷ takes 2 (traced ++ collects 2) 4 0 creates (Ok More ∷ Ok More ∷ Ok Done ∷ []) (2 ∷ 3 ∷ [])
    ∷ takes 2 (links ++ opened) 1 1 (cuts ++ nexts 4) (Ok More ∷ Ok More ∷ Ok More ∷ Ok More ∷ Ok Done ∷ []) (1 ∷ 2 ∷ [])
    ∷ takes 2 (links ++ traced ++ collects 2) 4 0 (cuts ++ nexts 3) (Ok More ∷ Ok More ∷ Ok More ∷ Ok Done ∷ []) (2 ∷ 2 ∷ [])
    ∷ takes 1 (pages ++ stores ++ collects 1) 1 0 (collector ∷ asks Call.Answer ∷ []) (Ok Waited ∷ Err Busy ∷ []) (1 ∷ [])
    ∷ takes 1 (asked ++ asks Call.Answer ∷ nexts 8) 3 2 (collects 2) (Ok Worked ∷ Ok Waited ∷ []) (2 ∷ [])
    ∷ []

-- with lent parts of the right lengths, start goes by its numbers alone
lent-start : (n g m : ℕ) (st : Store) → Lent n m st → (start n g m st).answer ≡ pick (limits_ok n g m) (Ok Done) (Err BadSize)
unfolding start fits sizes_ok lengths_ok every refuse
lent-start n g m st l = go (limits_ok n g m)
  where
    go : (b : Bool) → (refuse (refusing st) ((pick b (lengths_ok n m (length st.desk) (length st.fields) (length st.colours)) false, BadSize) ∷ []) (outcome (Ok Done) (fresh n g m))).answer ≡ pick b (Ok Done) (Err BadSize)
    go true = rw (eq-eqb _ _ l.1, eq-eqb _ _ l.2, eq-eqb _ _ l.0, refuse, lengths_ok, every) refl
    go false = refl

-- every definition of the machine is on this line
pub all_points : AllMet (marked ++ shortcuts)
unfolding all every refuse limits_ok lengths_ok sizes_ok posted tracing hand place_ok part_ok value_ok hold_ok found_ok record_ok status_ok colour_ok stored_ok made_ok work_ok job_ok row_ok with_status with_slot with_job fits fresh start sound_ok page copy drop read_cell read grayed gray_ok answer_to answer next_answering plan_of store_cell store_slots store store_read store_gray store_write next_storing lowest_free emptied take_cell take create decided look next_creating next_work next_job next turn_of has_status survey opening waiting marking end_pass scan_place scan_hold scan_gray scan_close scanning swept sweeping by_stage collector_turn write collect turn run answers working_turns
all_points =
    -- starts
    lent-start 4096 16 8
    also lent-start 0 1 1
    also lent-start 4097 1 1
    -- cycles: 20 turns, which is C; 23; dropped after the third answer, white at the closing; free after the next
    also refl
    also refl
    also refl
    also refl
    also refl
    -- stores: 5 turns, 4, 2
    also refl
    also refl
    also refl
    -- answers: refused 5; ten turns
    also refl
    also refl
    -- field 4 asked by a busy writer; drop of an empty slot
    also refl
    also refl
    -- shortcuts: one handshake; the hand at the opening; white while tracing; only the new value; neither; a busy writer, twice
    also refl
    also refl
    also refl
    also refl
    also refl
    also refl
    also refl
    also end
