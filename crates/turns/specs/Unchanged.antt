-- "A refusal returns its number and nothing else changes": a turn by value that is refused leaves the row, or the record, with fields and
-- colours, and so does one of the collector that waits.
use Rattle.std.specs.Prelude.{◌≡◌, ℕ, Bool, true, false, List, [], ◌∷◌, length, ◌==◌, nat_lt, Option, Some, None, Result, Ok, Err}
use Rattle.std.proofs.Math.Path.{refl}
use Rattle.machine.specs.Store.{fresh_record}
use Rattle.std.proofs.lemmas.Bool.{false≢true}
use Rattle.std.proofs.Common.{true≢false}
use Rattle.machine.specs.Choice.{pick, among, refuse}
use Rattle.machine.specs.ChoiceLaws.{hold, refuse-cases}
use Rattle.machine.specs.Limits.{limits_ok, lengths_ok, sizes_ok}
use Rattle.machine.specs.Parts.{colour_of, at, with_place, with_found}
use Rattle.machine.specs.Stage.{posted}
use Rattle.machine.specs.Answer.{Answered}
use Rattle.machine.specs.Turns.{RowTurn, Written, written, refused, Collected, collected, worked, waited}
use Rattle.machine.specs.Slots.{page, copy, drop, read, read_cell}
use Rattle.machine.specs.Answering.{answer_to, answer, next_answering}
use Rattle.machine.specs.Storing.{store_cell, store_slots, store, store_read, store_gray, store_write, next_storing}
use Rattle.machine.specs.Creating.{lowest_free, take_cell, take, create, look, next_creating}
use Rattle.machine.specs.Writer.{next_work, next_job, next, turn_of}
use Rattle.machine.specs.Collector.{entering, barred, opening, waiting, marking, end_pass, scan_place, scan_hold, scan_gray, scan_close, scanning, sweeping, by_stage, collector_turn}
use Rattle.machine.specs.declared.Record.{Record}
use Rattle.machine.specs.declared.Row.{Row}
use Rattle.machine.specs.declared.Call.{Call}
use Rattle.machine.specs.declared.Answer.TheVariants.{Done, More, Worked, Waited}
use Rattle.machine.specs.declared.Refusal.{Refusal}
use Rattle.machine.specs.declared.Stored.{Stored}
use Rattle.machine.specs.declared.Made.{Made}
use Rattle.machine.specs.declared.Plan.{Plan}
use Rattle.machine.specs.declared.Plan.TheVariants.{FullRead, FullOld, FullNew, FullWrite, TracedRead, TracedOld, TracedWrite, BareWrite}
use Rattle.machine.specs.declared.Look.{Look}
use Rattle.machine.specs.declared.Look.TheVariants.{Ahead, Keep, White}
use Rattle.machine.specs.declared.Work.{Work}
use Rattle.machine.specs.declared.Work.TheVariants.{Answering, Storing, Creating}
use Rattle.turn.specs.Lent.{writing, collecting, Begun, beginning}
use Rattle.turns.specs.Plain.{is_refused}

-- ---- a writer's turn
-- by a test
either : {A : Type 0} (P : A → Type 0) (b : Bool) (x y : A) → P x → P y → P (pick b x y)
either P true x y h k = h
either P false x y h k = k

module _ (rec : Record) (row : Row) (fs cs : List ℕ) where
  -- a turn that leaves the row if it is refused; and fields and colours too
  abbrev Stays : RowTurn → Type 0
  Stays t = is_refused t.answer ≡ true → t.row ≡ row

  abbrev Still : Written → Type 0
  Still o = is_refused o.turn.answer ≡ true → (o.turn.row ≡ row) × (o.fields ≡ fs) × (o.colours ≡ cs)

  -- a turn that is not refused
  goes_on : {A : Type 0} → false ≡ true → A
  goes_on e = absurd (false≢true e)

  -- a turn behind tests, which may refuse it
  tested : (ts : List (Bool × Refusal)) (t : RowTurn) → Stays t → Stays (refuse (refused row) ts t)
  tested ts t h = refuse-cases Stays _ ts t (λ k e. refl) (λ _. h)

  tested_in : (ts : List (Bool × Refusal)) (o : Written) → Still o → Still (refuse (λ k. written (refused row k) fs cs) ts o)
  tested_in ts o h = refuse-cases Still _ ts o (λ k e. (refl, refl, refl)) (λ _. h)

  stays-answer : Stays (answer rec row)
  unfolding answer answer_to is_refused
  stays-answer = tested _ _ (tested _ _ (either Stays (posted rec.stage == 0) _ _ goes_on goes_on))

  still-take : (s : ℕ) (r : Result ℕ Refusal) → Still (take row fs cs s r)
  unfolding take take_cell is_refused
  still-take s (Ok n) = goes_on
  still-take s (Err k) = λ e. (refl, refl, refl)

  still-storing : (s : Stored) (p : Plan) → Still (next_storing rec.n row fs cs s p)
  unfolding next_storing store_read store_gray store_write is_refused
  still-storing s FullRead = tested_in _ _ goes_on
  still-storing s FullOld = tested_in _ _ goes_on
  still-storing s FullNew = tested_in _ _ goes_on
  still-storing s FullWrite = goes_on
  still-storing s TracedRead = tested_in _ _ goes_on
  still-storing s TracedOld = tested_in _ _ goes_on
  still-storing s TracedWrite = goes_on
  still-storing s BareWrite = goes_on

  still-creating : (m : Made) (l : Look) → Still (next_creating rec row fs cs m l)
  unfolding next_creating look is_refused
  still-creating m Ahead = goes_on
  still-creating m Keep = goes_on
  still-creating m White = goes_on

  still-answering : (k : ℕ) → Still (next_answering row fs cs k)
  unfolding next_answering is_refused
  still-answering k = either Still (nat_lt k 8) _ _ (tested_in _ _ goes_on) goes_on

  still-job : (j : Option Work) → Still (next_job rec row fs cs j)
  unfolding next_job next_work
  still-job None = λ e. (refl, refl, refl)
  still-job (Some (Answering k)) = still-answering k
  still-job (Some (Storing s p)) = still-storing s p
  still-job (Some (Creating m)) = still-creating m m.look

  -- a turn of the row alone
  of_row : (call : Call) → Stays (turn_of rec row fs cs call).turn → (turn_of rec row fs cs call).fields ≡ fs → (turn_of rec row fs cs call).colours ≡ cs → Still (turn_of rec row fs cs call)
  of_row call h f c e = (h e, f, c)

  -- any call's
  still-turn : (call : Call) → Still (turn_of rec row fs cs call)
  unfolding turn_of page copy drop read read_cell store store_slots store_cell create next is_refused
  still-turn (Call.Page p s) = of_row (Call.Page p s) (tested _ _ goes_on) refl refl
  still-turn (Call.Copy r s) = of_row (Call.Copy r s) (tested _ _ goes_on) refl refl
  still-turn (Call.Drop r) = of_row (Call.Drop r) (tested _ _ goes_on) refl refl
  still-turn (Call.Read r f s) = of_row (Call.Read r f s) (tested _ _ (tested _ _ goes_on)) refl refl
  still-turn (Call.Store r f q) = of_row (Call.Store r f q) (tested _ _ (tested _ _ goes_on)) refl refl
  still-turn (Call.Create s) = tested_in _ _ (still-take s (lowest_free 0 cs))
  still-turn Call.Answer = of_row Call.Answer stays-answer refl refl
  still-turn Call.Next = tested_in _ _ (still-job row.job)

  pub write-still : (rows w : ℕ) (call : Call) → Still (writing rec rows w row fs cs call)
  unfolding writing
  write-still rows w call = tested_in _ _ (still-turn call)

-- ---- the collector's turn: one that waits leaves the record too, and every one leaves n, g and m
abbrev pub idles : Answered → Bool
idles (Ok Done) = false
idles (Ok More) = false
idles (Ok Worked) = false
idles (Ok Waited) = true
idles (Err k) = true

pub refused-idles : (a : Answered) → is_refused a ≡ true → idles a ≡ true
unfolding is_refused
refused-idles (Ok a) e = absurd (false≢true e)
refused-idles (Err k) e = refl

-- what holds of each of its ends holds of it
module _ (rec : Record) (seen : Result Bool Refusal) (fs cs : List ℕ) (P : Collected → Type 0) (stop : (k : Refusal) → P (barred rec cs k)) (wait : P (collected (waited rec) cs))
    (work : (stage place part hold found count : ℕ) (cs' : List ℕ) → P (collected (record { answer = Ok Worked; rec = at rec stage place part hold found count }) cs')) where
  in_waiting : (next : ℕ) → P (collected (waiting rec seen next) cs)
  unfolding waiting
  in_waiting next = go seen
    where
      go : (s : Result Bool Refusal) → P (collected (waiting rec s next) cs)
      go (Ok true) = work _ _ _ _ _ _ _
      go (Ok false) = wait
      go (Err k) = stop k

  in_marking : P (marking rec seen cs)
  unfolding marking
  in_marking = either P (nat_lt rec.place rec.g) _ _ (refuse-cases P _ _ _ stop (λ t. work _ _ _ _ _ _ _)) (in_waiting 4)

  in_pass : P (collected (end_pass rec) cs)
  unfolding end_pass
  in_pass = go (rec.found == 0)
    where
      go : (b : Bool) → P (collected (pick b (worked (entering rec 5)) (worked (with_found (with_place rec 0) 0))) cs)
      go true = work _ _ _ _ _ _ _
      go false = work _ _ _ _ _ _ _

  in_place : P (scan_place rec cs)
  unfolding scan_place
  in_place =
      either P (nat_lt rec.place rec.n) _ _
      (refuse-cases P _ _ _ stop (λ t. either P (colour_of cs rec.place == 2) _ _ (work _ _ _ _ _ _ _) (work _ _ _ _ _ _ _))) in_pass

  in_scanning : (part : ℕ) → P (scanning rec fs cs part)
  unfolding scanning scan_hold scan_gray scan_close
  in_scanning part =
      either P (part == 0) _ _ in_place
      (either P (among (1 ∷ 3 ∷ 5 ∷ 7 ∷ []) part) _ _ (refuse-cases P _ _ _ stop (λ t. work _ _ _ _ _ _ _))
      (either P (among (2 ∷ 4 ∷ 6 ∷ 8 ∷ []) part) _ _ (refuse-cases P _ _ _ stop (λ t. work _ _ _ _ _ _ _)) (work _ _ _ _ _ _ _)))

  in_sweeping : P (sweeping rec cs)
  unfolding sweeping
  in_sweeping = either P (nat_lt rec.place rec.n) _ _ (refuse-cases P _ _ _ stop (λ t. work _ _ _ _ _ _ _)) (work _ _ _ _ _ _ _)

  in_stage : (stage : ℕ) → P (by_stage rec seen fs cs stage)
  unfolding by_stage opening
  in_stage stage =
      either P (stage == 0) _ _ (work _ _ _ _ _ _ _)
      (either P (stage == 1) _ _ (in_waiting 2)
      (either P (stage == 2) _ _ (in_waiting 3)
      (either P (stage == 3) _ _ in_marking
      (either P (stage == 4) _ _ (in_scanning rec.part) in_sweeping))))

  in_turn : P (collector_turn rec seen fs cs)
  unfolding collector_turn
  in_turn = refuse-cases P _ _ _ stop (λ t. in_stage rec.stage)

module _ (rec : Record) (seen : Result Bool Refusal) (fs cs : List ℕ) where
  abbrev Same : Collected → Type 0
  Same o = idles o.turn.answer ≡ true → (o.turn.rec ≡ rec) × (o.colours ≡ cs)

  pub stage-same : (stage : ℕ) → Same (by_stage rec seen fs cs stage)
  stage-same = in_stage rec seen fs cs Same (λ k e. (refl, refl)) (λ e. (refl, refl)) (λ stage place part hold found count cs' e. absurd (false≢true e))

  pub collect-same : (rows : ℕ) → Same (collecting rec rows seen fs cs)
  unfolding collecting collector_turn
  collect-same rows = refuse-cases Same _ _ _ (λ k e. (refl, refl)) (λ t. refuse-cases Same _ _ _ (λ k e. (refl, refl)) (λ u. stage-same rec.stage))

  -- not refused, it leaves n, g and m, and they are in limits
  abbrev Keeps : Collected → Type 0
  Keeps o = is_refused o.turn.answer ≡ false → (limits_ok rec.n rec.g rec.m ≡ true) × (o.turn.rec.n ≡ rec.n) × (o.turn.rec.g ≡ rec.g) × (o.turn.rec.m ≡ rec.m)

  pub collect-keeps : (rows : ℕ) → Keeps (collecting rec rows seen fs cs)
  unfolding collecting sizes_ok is_refused
  collect-keeps rows = refuse-cases Keeps _ _ _ (λ k e. absurd (true≢false e)) (λ t. let l = (hold (limits_ok rec.n rec.g rec.m ∷ lengths_ok rec.n rec.m rows (length fs) (length cs) ∷ []) t.0).0 in
      in_turn rec seen fs cs Keeps (λ k e. absurd (true≢false e)) (λ e. (l, refl, refl, refl)) (λ stage place part hold found count cs' e. (l, refl, refl, refl)))

-- ---- start: refused, it leaves fields and colours
module _ (n g m rows : ℕ) (fs cs : List ℕ) where
  pub start-still : is_refused (beginning n g m rows fs cs).started ≡ true → ((beginning n g m rows fs cs).fields ≡ fs) × ((beginning n g m rows fs cs).colours ≡ cs)
  unfolding beginning is_refused
  start-still = refuse-cases (λ (b : Begun). is_refused b.started ≡ true → (b.fields ≡ fs) × (b.colours ≡ cs)) _ _ _ (λ k e. (refl, refl)) (λ t e. absurd (false≢true e))

  -- not refused, it begins with a fresh record
  pub start_goes : is_refused (beginning n g m rows fs cs).started ≡ false → (beginning n g m rows fs cs).started ≡ Ok (fresh_record n g m)
  unfolding beginning is_refused
  start_goes = refuse-cases (λ (b : Begun). is_refused b.started ≡ false → b.started ≡ Ok (fresh_record n g m)) _ _ _ (λ k e. absurd (true≢false e)) (λ t e. refl)
