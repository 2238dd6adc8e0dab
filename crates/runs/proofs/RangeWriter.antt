-- A writer's turn on a store in range leaves it in range, with neither refusal 1 nor 2.
use Rattle.std.specs.Prelude.{ℕ, suc, ◌+◌, ◌*◌, ◌<◌, ◌≡◌, Bool, List, [], ◌∷◌, leb, eqb, length, set, Some, None, Option, Result, Ok, Err, ◌≤◌}
use Rattle.std.proofs.Math.Path.{refl}
use Rattle.std.proofs.Math.Bool.{true, false}
use Rattle.std.proofs.Common.{inl, inr, arith, length-set, subst}
use Rattle.std.proofs.Math.Decide.{dec_lt}
use borrow.Author.Tests.{ltb-true, eqb-false, lt-ltb, le-ltb, le-leb, not-true}
use Rattle.machine.specs.Choice.{pick}
use Rattle.machine.specs.ChoiceLaws.{hold, held}
use Rattle.machine.specs.Limits.{none}
use Rattle.machine.specs.Stage.{posted}
use Rattle.machine.specs.Store.{Store}
use Rattle.machine.specs.Range.{value_ok, colour_ok, stored_ok, made_ok, work_ok, job_ok, row_ok}
use Rattle.machine.specs.RangeLaws.{value_cell, row-job}
use Rattle.machine.specs.Parts.{slot_of, with_status, with_job}
use Rattle.machine.specs.Turns.{done, more}
use Rattle.machine.specs.Slots.{page, copy, drop, read_cell, read}
use Rattle.machine.specs.Answering.{answer_to, answer, next_answering}
use Rattle.machine.specs.Storing.{store_cell, store_slots, store, store_read, store_gray, store_write, next_storing}
use Rattle.machine.specs.Creating.{lowest_free, emptied, take_cell, take, create, look, next_creating}
use Rattle.machine.specs.Writer.{next_work, next_job, next, turn_of}
use Rattle.machine.specs.Machine.{row_of, write}
use Rattle.machine.specs.declared.Row.{Row}
use Rattle.machine.specs.declared.Stored.{Stored}
use Rattle.machine.specs.declared.Made.{Made}
use Rattle.machine.specs.declared.Plan.{Plan}
use Rattle.machine.specs.declared.Plan.TheVariants.{FullRead, FullOld, FullNew, FullWrite, TracedRead, TracedOld, TracedWrite, BareWrite}
use Rattle.machine.specs.declared.Look.{Look}
use Rattle.machine.specs.declared.Look.TheVariants.{Ahead, Keep, White}
use Rattle.machine.specs.declared.Refusal.{Refusal}
use Rattle.machine.specs.Answer.{number}
use Rattle.machine.specs.declared.Work.TheVariants.{Answering, Storing, Creating}
use Rattle.machine.specs.declared.Call.{Call}
use Rattle.runs.proofs.Refused.{refuse-clear}
use Rattle.runs.specs.Abs.{Eight}
use Rattle.runs.proofs.Abs.{set_all, fit}
use Rattle.runs.proofs.Creating.{free_is}
use Rattle.runs.specs.RangeRow.{Sound, FineRow, FineQuiet}
use Rattle.runs.proofs.RangeRow.{with_idle, same, put, put_quiet, put-gray, sound, slot_ok, with_job_lem, with_slot_lem, with_status_lem, field_ok, pages}
use Rattle.runs.specs.Range.{Values, Colours, InRange, Fine}
use Rattle.runs.proofs.Range.{cell_ok, gray_ok_lem}
use Rattle.machine.specs.declared.Work.{Work}
use Rattle.machine.specs.declared.Refusal.TheVariants.{NoTurn, Full}

-- the posted number is a status
posted_ok : (t : ℕ) → leb (posted t) 2 ≡ true
unfolding posted
posted_ok t = go (eqb t 1) (eqb t 2)
  where
    go : (a b : Bool) → leb (pick a 1 (pick b 2 0)) 2 ≡ true
    go true b = refl
    go false true = refl
    go false false = refl

-- a byte above 3 is never met
only_full : (i : ℕ) (l : List ℕ) (k : Refusal) → Colours l → lowest_free i l ≡ Err k → Full ≡ k
unfolding lowest_free
only_full i [] k h e = cc
only_full i (b ∷ bs) k h e = go (eqb b 0) (only_full (i + 1) bs k (λ j. h (suc j))) (rw (h 0) at e)
  where
    go : (t : Bool) → (lowest_free (i + 1) bs ≡ Err k → Full ≡ k) → pick t (Ok i) (lowest_free (i + 1) bs) ≡ Err k → Full ≡ k
    go true h e = let z : ◌≡◌ {A = ℕ} 0 1 = cc in absurd (omega arith)
    go false h e = h e

-- emptying a cell's fields leaves values, and as many
emptied_in : (n : ℕ) (l : List ℕ) (c : ℕ) → Values n l → Values n (emptied l c)
unfolding emptied value_ok
emptied_in n l c h = blank l3 (c * 4 + 3) (blank l2 (c * 4 + 2) (blank l1 (c * 4 + 1) (blank l (c * 4 + 0) h)))
  where
    l1 : List ℕ
    l1 = set l (c * 4 + 0) none

    l2 : List ℕ
    l2 = set l1 (c * 4 + 1) none

    l3 : List ℕ
    l3 = set l2 (c * 4 + 2) none

    blank : (l : List ℕ) (i : ℕ) → Values n l → Values n (set l i none)
    blank l i h = set_all (λ x. value_ok n x ≡ true) l i none none h refl

emptied-length : (l : List ℕ) (c : ℕ) → length (emptied l c) ≡ length l
unfolding emptied
emptied-length l c = rw (length-set, length-set, length-set, length-set)

module _ {st : Store} {w : ℕ} (S : Sound st w) where
  abbrev n : ℕ
  n = st.rec.n

  abbrev row : Row
  row = row_of st w

  -- ---- page, copy, drop, read
  -- each puts a value into a slot
  page_fine : (p s : ℕ) → FineQuiet st w (page st.rec row p s)
  unfolding page
  page_fine p s = refuse-clear (FineQuiet st w) _ _ _ (inr (omega arith), (inr (omega arith), (inl (sound S), (inr (omega arith), tt)))) (same S) (λ t.
      put_quiet S _ _ tt (with_slot_lem S s p (cell_ok n p (omega (arith, ltb-true p st.rec.g t.0, pages S)))))

  copy_fine : (r s : ℕ) → FineQuiet st w (copy st.rec row r s)
  unfolding copy
  copy_fine r s = refuse-clear (FineQuiet st w) _ _ _ (inr (omega arith), (inr (omega arith), (inl (sound S), (inr (omega arith), tt)))) (same S) (λ t.
      put_quiet S _ _ tt (with_slot_lem S s _ (slot_ok S r (ltb-true _ _ t.0))))

  drop_fine : (r : ℕ) → FineQuiet st w (drop st.rec row r)
  unfolding drop value_ok
  drop_fine r = refuse-clear (FineQuiet st w) _ _ _ (inr (omega arith), (inl (sound S), (inr (omega arith), tt))) (same S) (λ t. put_quiet S _ _ tt (with_slot_lem S r none refl))

  read_fine : (r f s : ℕ) → FineQuiet st w (read st.rec row st.fields r f s)
  unfolding read read_cell
  read_fine r f s = refuse-clear (FineQuiet st w) _ _ _
      (inr (omega arith), (inr (omega arith), (inr (omega arith), (inl (sound S), (inr (omega arith), (inr (omega arith), tt)))))) (same S) (λ t.
      let x = slot_of row r in
      let c : x < n = value_cell n x (slot_ok S r (ltb-true _ _ t.0)) (eqb-false x none (not-true _ t.1.1.1.1.1.0)) in
      let v = field_ok S x f c (ltb-true _ _ t.1.1.0) in
      refuse-clear (FineQuiet st w) _ _ _ (inl v, tt) (same S) (λ u. put_quiet S _ _ tt (with_slot_lem S s _ v)))

  -- ---- answer
  -- answer's first turn
  answer_fine : FineQuiet st w (answer st.rec row)
  unfolding answer answer_to job_ok work_ok
  answer_fine = refuse-clear (FineQuiet st w) _ _ _ (inl (sound S), (inr (omega arith), tt)) (same S) (λ t.
      refuse-clear (FineQuiet st w) _ _ _ (inr (omega arith), tt) (same S) (λ u. go (eqb (posted st.rec.stage) 0)))
    where
      go : (z : Bool) → FineQuiet st w (pick z (more (with_job row (Some (Answering 0)))) (done (with_status row (posted st.rec.stage))))
      go true = put_quiet S _ _ tt (with_job_lem S _ refl)
      go false = put_quiet S _ _ tt (with_status_lem S _ (posted_ok st.rec.stage))

  -- the turns of its job
  answering_fine : (k : ℕ) → FineRow st w (next_answering row st.fields st.colours k)
  unfolding next_answering job_ok work_ok
  answering_fine k = go (dec_lt k 8)
    where
      go : Dec (k < 8) → FineRow st w (next_answering row st.fields st.colours k)
      go (yes l) = rw (lt-ltb k 8 l, next_answering) (refuse-clear (FineRow st w) _ _ _ (inl (gray_ok_lem st.colours _ S.range.colours), tt) (same S) (λ t.
          put-gray S _ _ _ tt (with_job_lem S _ (le-leb (k + 1) 8 (omega arith)))))
      go (no l) = rw (le-ltb k 8 (omega arith), next_answering) (put_quiet S _ _ tt (with_idle n _ (with_status_lem S 0 refl)))

  -- ---- store
  -- the row with a store's job
  stored_ok_lem : (c f v o : ℕ) (p : Plan) → c < n → f < 4 → value_ok n v ≡ true → value_ok n o ≡ true
      → row_ok n (with_job row (Some (Storing (record { cell = c; field = f; new = v; old = o }) p))) ≡ true
  unfolding job_ok work_ok stored_ok
  stored_ok_lem c f v o p l d e q = with_job_lem S _ (held _ (lt-ltb c n l, (lt-ltb f 4 d, (e, (q, tt)))))

  -- store's first turn
  store_fine : (r f q : ℕ) → FineQuiet st w (store st.rec row r f q)
  unfolding store store_slots store_cell value_ok
  store_fine r f q = refuse-clear (FineQuiet st w) _ _ _ (inr (omega arith), (inr (omega arith), (inr (omega arith), (inl (sound S), (inr (omega arith), tt))))) (same S) (λ t.
      refuse-clear (FineQuiet st w) _ _ _ (inr (omega arith), tt) (same S) (λ u.
      let x = slot_of row r in
      let c : x < n = value_cell n x (slot_ok S r (ltb-true _ _ t.0)) (eqb-false x none (not-true _ u.0)) in
      put_quiet S _ _ tt (stored_ok_lem x f _ none _ c (ltb-true _ _ t.1.1.0) (slot_ok S q (ltb-true _ _ t.1.0)) refl)))

  module _ (s : Stored) (c : s.cell < n) (d : s.field < 4) (v : value_ok n s.new ≡ true) (o : value_ok n s.old ≡ true) where
    -- the turns of its job: read, gray, write
    read-turn : (p : Plan) → FineRow st w (store_read n row st.fields st.colours s p)
    unfolding store_read
    read-turn p = let e = field_ok S s.cell s.field c d in
        refuse-clear (FineRow st w) _ _ _ (inl e, tt) (same S) (λ t. put_quiet S _ _ tt (stored_ok_lem s.cell s.field s.new _ p c d v e))

    gray-turn : (x : ℕ) (p : Plan) → FineRow st w (store_gray row st.fields st.colours x s p)
    unfolding store_gray
    gray-turn x p = refuse-clear (FineRow st w) _ _ _ (inl (gray_ok_lem st.colours x S.range.colours), tt) (same S) (λ t.
        put-gray S _ _ x tt (stored_ok_lem s.cell s.field s.new s.old p c d v o))

    write-turn : FineRow st w (store_write row st.fields st.colours s)
    unfolding store_write
    write-turn = put S _ _ _ _ tt (with_idle n row (S.range.rows w))
        (set_all (λ x. value_ok n x ≡ true) st.fields _ s.new none S.range.fields v) (length-set st.fields _ s.new)
        S.range.colours refl

    -- the turns of each plan
    storing_fine : (p : Plan) → FineRow st w (next_storing n row st.fields st.colours s p)
    unfolding next_storing
    storing_fine FullRead = read-turn FullOld
    storing_fine FullOld = gray-turn s.old FullNew
    storing_fine FullNew = gray-turn s.new FullWrite
    storing_fine FullWrite = write-turn
    storing_fine TracedRead = read-turn TracedOld
    storing_fine TracedOld = gray-turn s.old TracedWrite
    storing_fine TracedWrite = write-turn
    storing_fine BareWrite = write-turn

  -- ---- create
  -- the row with a creation's job
  made_ok_lem : (s c : ℕ) (l : Look) → s < 8 → c < n → row_ok n (with_job row (Some (Creating (record { slot = s; cell = c; look = l })))) ≡ true
  unfolding job_ok work_ok made_ok
  made_ok_lem s c l d e = with_job_lem S _ (held _ (lt-ltb s 8 d, (lt-ltb c n e, tt)))

  -- the first turn, by what the look for a free cell finds
  take_fine : (s : ℕ) → s < 8 → (r : Result ℕ Refusal) → lowest_free 0 st.colours ≡ r → FineRow st w (take row st.fields st.colours s r)
  unfolding take take_cell colour_ok
  take_fine s l (Err k) q = same S k (subst (λ k. 3 ≤ number k) (only_full 0 st.colours k S.range.colours q) (omega arith))
  take_fine s l (Ok c) q = let k = free_is 0 st.colours c q in
      put S _ _ _ _ tt (made_ok_lem s c Ahead l (omega (arith, k.1, k.2, S.at.fit.colours)))
      (emptied_in n st.fields c S.range.fields) (emptied-length st.fields c)
      (set_all (λ x. colour_ok x ≡ true) st.colours c 3 3 S.range.colours refl) (length-set st.colours c 3)

  -- create, after its refusals
  create_fine : (s : ℕ) → FineRow st w (create st.rec row st.fields st.colours s)
  unfolding create
  create_fine s = refuse-clear (FineRow st w) _ _ _ (inr (omega arith), (inl (sound S), (inr (omega arith), tt))) (same S) (λ t.
      take_fine s (ltb-true _ _ t.0) (lowest_free 0 st.colours) refl)

  -- the look; the finish, without white and with it
  creating_fine : (m : Made) (l : Look) → m.slot < 8 → m.cell < n → FineRow st w (next_creating st.rec row st.fields st.colours m l)
  unfolding next_creating look colour_ok
  creating_fine m Ahead d e = put_quiet S _ _ tt (made_ok_lem m.slot m.cell _ d e)
  creating_fine m Keep d e = put_quiet S _ _ tt (with_idle n _ (with_slot_lem S m.slot m.cell (cell_ok n m.cell e)))
  creating_fine m White d e = put S _ _ _ _ tt (with_idle n _ (with_slot_lem S m.slot m.cell (cell_ok n m.cell e))) S.range.fields refl
      (set_all (λ x. colour_ok x ≡ true) st.colours m.cell 1 3 S.range.colours refl) (length-set st.colours m.cell 1)

  -- ---- next, and the call by its name
  -- next, by the job
  job_fine : (j : Option Work) → job_ok n j ≡ true → FineRow st w (next_job st.rec row st.fields st.colours j)
  unfolding next_job next_work job_ok work_ok stored_ok made_ok
  job_fine None e = same S NoTurn (omega arith)
  job_fine (Some (Answering k)) e = answering_fine k
  job_fine (Some (Storing s p)) e = let t = hold _ e in storing_fine s (ltb-true _ _ t.0) (ltb-true _ _ t.1.0) t.1.1.0 t.1.1.1.0 p
  job_fine (Some (Creating m)) e = let t = hold _ e in creating_fine m m.look (ltb-true _ _ t.0) (ltb-true _ _ t.1.0)

  next_fine : FineRow st w (next st.rec row st.fields st.colours)
  unfolding next
  next_fine = refuse-clear (FineRow st w) _ _ _ (inl (sound S), tt) (same S) (λ t. job_fine row.job (row-job n row (S.range.rows w)))

  -- the call by its name
  call_fine : (call : Call) → FineRow st w (turn_of st.rec row st.fields st.colours call)
  unfolding turn_of
  call_fine (Call.Page p s) = page_fine p s
  call_fine (Call.Copy r s) = copy_fine r s
  call_fine (Call.Drop r) = drop_fine r
  call_fine (Call.Read r f s) = read_fine r f s
  call_fine (Call.Store r f q) = store_fine r f q
  call_fine (Call.Create s) = create_fine s
  call_fine Call.Answer = answer_fine
  call_fine Call.Next = next_fine

-- the writer's call, after its refusals
pub write_fine : (st : Store) → Eight st.desk → InRange st → st.rec.count < 4294967295 → (w : ℕ) (call : Call) → Fine (write w call st)
unfolding write
write_fine st E R b w call = refuse-clear Fine _ _ _ (inl R.sizes, (inr (omega arith), tt)) (λ k l. record { mild = l; after = R }) (λ t.
    call_fine (record { at = record { eight = E; fit = fit st t.0; writer = ltb-true _ _ t.1.0 }; range = R; count = b }) call)
