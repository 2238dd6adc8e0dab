-- The collector's turn on a store in range leaves it in range, with neither refusal 1 nor 2.
use Prim.Native.Nat.{ℕ, zero, suc, ◌+◌, ◌*◌, ◌≤◌, ◌<◌}
use Rattle.std.specs.Prelude.{◌≡◌, Bool, ◌≢◌, List, [], ◌∷◌, eqb, length, get_or, Err, Ok}
use Rattle.std.proofs.Math.Path.{refl}
use Rattle.std.proofs.Math.Bool.{true, false}
use Rattle.std.proofs.Common.{inl, arith, length-set}
use Rattle.std.proofs.Math.Decide.{dec_lt}
use Rattle.std.proofs.Math.Dec.{ltb, leb}
use borrow.Author.Tests.{leb-true, lt-ltb, le-ltb, le-leb}
use Rattle.machine.specs.Choice.{pick, all, every, refuse}
use Rattle.machine.specs.ChoiceLaws.{Hold, hold, all_from, held}
use Rattle.machine.specs.Limits.{none}
use Rattle.machine.specs.Stage.{posted}
use Rattle.machine.specs.Store.{Store, fresh_row, fits}
use Rattle.machine.specs.Range.{place_ok, part_ok, value_ok, hold_ok, found_ok, status_ok, colour_ok, row_ok}
use Rattle.machine.specs.Turns.{worked, waited, Collected, collected}
use Rattle.machine.specs.Collector.{has_status, survey, entering, barred, opening, waiting, marking, end_pass}
use Rattle.machine.specs.Collector.{scan_place, scan_hold, scan_gray, scan_close, scanning, swept, sweeping, by_stage}
use Rattle.machine.specs.Collector.{collector_turn}
use Rattle.machine.specs.Machine.{put_record, collect}
use Rattle.machine.specs.declared.Record.{Record}
use Rattle.machine.specs.declared.Row.{Row}
use Rattle.runs.proofs.Refused.{refuse-clear}
use Rattle.runs.proofs.Abs.{set_all, fit}
use Rattle.runs.proofs.Collect.{part-zero, part_in}
use Rattle.runs.specs.Range.{numbers_ok, Colours, InRange, Fine}
use Rattle.runs.proofs.Range.{record_ok_lem, value-at, colour-at, gray_ok_lem, grayed_in, grayed-length}
use Rattle.machine.specs.declared.Answer.TheVariants.{Worked}
use Rattle.machine.specs.Answer.{number}
use Rattle.machine.specs.declared.Refusal.{Refusal}
use Rattle.machine.specs.declared.Refusal.TheVariants.{BadNumber}

-- a swept colour is a colour
swept_ok : (c : ℕ) → colour_ok c ≡ true → colour_ok (swept c) ≡ true
unfolding swept colour_ok
swept_ok c e = go (eqb c 1) (eqb c 3)
  where
    go : (a b : Bool) → colour_ok (pick a 0 (pick b 1 c)) ≡ true
    go true b = refl
    go false true = refl
    go false false = e

-- a store by its parts, the record by its numbers, as in Collect; `cs` are the colours after the turn
module _ (n g m c : ℕ) (desk : List Row) (fields colours : List ℕ) where
  abbrev rec : ℕ → ℕ → ℕ → ℕ → ℕ → Record
  rec t p k h f = record { n = n; g = g; m = m; stage = t; place = p; part = k; hold = h; found = f; count = c }

  abbrev store : ℕ → ℕ → ℕ → ℕ → ℕ → Store
  store t p k h f = record { rec = rec t p k h f; desk = desk; fields = fields; colours = colours }

  -- what this turn of the collector leaves is fine
  abbrev Leaves : ℕ → ℕ → ℕ → ℕ → ℕ → Collected → Type 0
  Leaves t p k h f o = Fine (put_record (store t p k h f) o)

  module _ (t p k h f : ℕ) (R : InRange (store t p k h f)) where
    -- a refusal from 3 on, and a turn that waits
    same : (i : Refusal) → 3 ≤ number i → Leaves t p k h f (collected (record { answer = Err i; rec = rec t p k h f }) colours)
    same i l = record { mild = l; after = R }

    idle : Leaves t p k h f (collected (waited (rec t p k h f)) colours)
    idle = record { mild = tt; after = R }

    -- a turn that works, with these numbers and colours
    step : (t' p' k' h' f' c' : ℕ) (cs : List ℕ) → Hold (numbers_ok (rec t' p' k' h' f')) → Colours cs → length cs ≡ length colours
        → Leaves t p k h f (collected (record { answer = Ok Worked; rec = record { n = n; g = g; m = m; stage = t'; place = p'; part = k'; hold = h'; found = f'; count = c' } }) cs)
    unfolding fits place_ok part_ok hold_ok found_ok
    step t' p' k' h' f' c' cs e v l = record {
      mild = tt;
      after = record { sizes = rw (l, fits) R.sizes; numbers = e; rows = R.rows; fields = R.fields; colours = v };
    }

    -- the waiting test meets statuses in range
    wait_fine : (number next : ℕ) → Leaves t p k h f (collected (worked (entering (rec t p k h f) next)) colours)
        → Leaves t p k h f (collected (waiting (rec t p k h f) (survey number desk) next) colours)
    unfolding waiting survey row_ok
    wait_fine number next on = refuse-clear (λ r. Leaves t p k h f (collected (waiting (rec t p k h f) r next) colours)) _ _ _
        (inl (all_from status_ok fresh_row desk (λ w. (hold _ (R.rows w)).0)), tt) same (λ u. go (all (has_status number) desk))
      where
        go : (b : Bool) → Leaves t p k h f (collected (pick b (worked (entering (rec t p k h f) next)) (waited (rec t p k h f))) colours)
        go true = on
        go false = idle

    -- the lengths that fit
    size : (length colours ≡ n) × (length fields ≡ n * 4)
    size = let F = fit (store t p k h f) R.sizes in (F.colours, F.fields)

  -- a part above 0 may follow where the place is a cell
  part_ok_lem : (p k h f : ℕ) → p < n → k ≤ 9 → part_ok (rec 4 p k h f) ≡ true
  unfolding part_ok
  part_ok_lem p k h f l b = go (eqb k 0)
    where
      go : (z : Bool) → pick z true (every (eqb 4 4 ∷ ltb p n ∷ leb k 9 ∷ [])) ≡ true
      go true = refl
      go false = held _ (refl, (lt-ltb p n l, (le-leb k 9 b, tt)))

  -- ---- stage 3
  -- below g a page is grayed; at g the turn waits
  marking_fine : (p h f : ℕ) → InRange (store 3 p 0 h f) → Dec (p < g) → Leaves 3 p 0 h f (marking (rec 3 p 0 h f) (survey 0 desk) colours)
  unfolding marking place_ok part_ok hold_ok found_ok
  marking_fine p h f R (yes l) = let e = R.numbers in
      rw (lt-ltb p g l, marking) (refuse-clear (Leaves 3 p 0 h f) _ _ _ (inl (gray_ok_lem colours p R.colours), tt) (same 3 p 0 h f R) (λ t.
      step 3 p 0 h f R _ _ _ _ _ _ _ (refl, (le-leb (p + 1) g (omega arith), (refl, (e.1.1.1.0, (e.1.1.1.1.0, tt)))))
      (grayed_in colours p R.colours) (grayed-length colours p)))
  marking_fine p h f R (no l) = let e = R.numbers in rw (le-ltb p g (omega arith), marking)
      (wait_fine 3 p 0 h f R 0 4 (step 3 p 0 h f R _ _ _ _ _ _ _ (refl, (le-leb 0 n (omega arith), (refl, (e.1.1.1.0, (refl, tt))))) R.colours refl))

  -- ---- stage 4: part 0, then by the part
  -- a cell is opened or passed; at N the pass ends
  place_fine : (p h f : ℕ) → InRange (store 4 p 0 h f) → Dec (p < n) → Leaves 4 p 0 h f (scan_place (rec 4 p 0 h f) colours)
  unfolding scan_place end_pass place_ok part_ok hold_ok found_ok every
  place_fine p h f R (yes l) = rw (lt-ltb p n l, scan_place) (refuse-clear (Leaves 4 p 0 h f) _ _ _
      (inl (colour-at colours p R.colours (omega (arith, (size 4 p 0 h f R).0))), tt) (same 4 p 0 h f R) (λ t. go (eqb (get_or colours p 0) 2)))
    where
      go : (b : Bool) → Leaves 4 p 0 h f (pick b (collected (worked (rec 4 p 1 h 1)) colours) (collected (worked (rec 4 (p + 1) 0 h f)) colours))
      go true = let e = R.numbers in
          step 4 p 0 h f R _ _ _ _ _ _ _ (refl, (e.1.0, (part_ok_lem p 1 h 1 l (omega arith), (e.1.1.1.0, (refl, tt))))) R.colours refl
      go false = let e = R.numbers in
          step 4 p 0 h f R _ _ _ _ _ _ _ (refl, (le-leb (p + 1) n (omega arith), (refl, (e.1.1.1.0, (e.1.1.1.1.0, tt))))) R.colours refl
  place_fine p h f R (no l) = rw (le-ltb p n (omega arith), scan_place) (go (eqb f 0))
    where
      go : (b : Bool) → Leaves 4 p 0 h f (collected (pick b (worked (rec 5 0 0 h 0)) (worked (rec 4 0 0 h 0))) colours)
      go true = step 4 p 0 h f R _ _ _ _ _ _ _ (refl, (le-leb 0 n (omega arith), (refl, (R.numbers.1.1.1.0, (refl, tt))))) R.colours refl
      go false = step 4 p 0 h f R _ _ _ _ _ _ _ (refl, (le-leb 0 n (omega arith), (refl, (R.numbers.1.1.1.0, (refl, tt))))) R.colours refl

  module _ (p k h f : ℕ) (R : InRange (store 4 p k h f)) where
    -- in a part above 0 the place is a cell
    in_part : k ≢ 0 → (p < n) × (k ≤ 9)
    in_part z = part_in (rec 4 p k h f) R.numbers.1.1.0 z

    -- parts 1, 3, 5, 7: field i goes to the hold
    hold_fine : (i : ℕ) → k ≢ 0 → k ≤ 8 → i < 4
        → (value_ok n (get_or fields (p * 4 + i) 0) ≡ true → hold_ok (rec 4 p (k + 1) (get_or fields (p * 4 + i) 0) f) ≡ true)
        → Leaves 4 p k h f (refuse (barred (rec 4 p k h f) colours) ((value_ok n (get_or fields (p * 4 + i) 0), BadNumber) ∷ []) (collected (worked (rec 4 p (k + 1) (get_or fields (p * 4 + i) 0) f)) colours))
    unfolding place_ok found_ok
    hold_fine i z b d ok = let v = value-at n fields (p * 4 + i) R.fields (omega (arith, (size 4 p k h f R).1, (in_part z).0)) in
        let e = R.numbers in
        refuse-clear (Leaves 4 p k h f) _ _ _ (inl v, tt) (same 4 p k h f R) (λ t.
        step 4 p k h f R _ _ _ _ _ _ _ (refl, (e.1.0, (part_ok_lem p (k + 1) _ f (in_part z).0 (omega arith), (ok v, (e.1.1.1.1.0, tt))))) R.colours refl)

    -- parts 2, 4, 6, 8: the hold is grayed
    gray_fine : k ≢ 0 → k ≤ 8 → hold_ok (rec 4 p (k + 1) none f) ≡ true
        → Leaves 4 p k h f (scan_gray (rec 4 p k h f) colours)
    unfolding scan_gray place_ok found_ok
    gray_fine z b ok = let e = R.numbers in
        refuse-clear (Leaves 4 p k h f) _ _ _ (inl (gray_ok_lem colours h R.colours), tt) (same 4 p k h f R) (λ t.
        step 4 p k h f R _ _ _ _ _ _ _ (refl, (e.1.0, (part_ok_lem p (k + 1) none f (in_part z).0 (omega arith), (ok, (e.1.1.1.1.0, tt)))))
        (grayed_in colours h R.colours) (grayed-length colours h))

  -- the scan's turns, by the part
  part_fine : (p k h f : ℕ) → InRange (store 4 p k h f) → Leaves 4 p k h f (scanning (rec 4 p k h f) fields colours k)
  unfolding scanning scan_hold scan_close place_ok part_ok hold_ok found_ok colour_ok
  part_fine p zero h f R = place_fine p h f R (dec_lt p n)
  part_fine p (suc zero) h f R = hold_fine p 1 h f R 0 (omega arith) (omega arith) (omega arith) (λ v. v)
  part_fine p (suc (suc zero)) h f R = gray_fine p 2 h f R (omega arith) (omega arith) refl
  part_fine p (suc (suc (suc zero))) h f R = hold_fine p 3 h f R 1 (omega arith) (omega arith) (omega arith) (λ v. v)
  part_fine p (suc (suc (suc (suc zero)))) h f R = gray_fine p 4 h f R (omega arith) (omega arith) refl
  part_fine p (suc (suc (suc (suc (suc zero))))) h f R = hold_fine p 5 h f R 2 (omega arith) (omega arith) (omega arith) (λ v. v)
  part_fine p (suc (suc (suc (suc (suc (suc zero)))))) h f R = gray_fine p 6 h f R (omega arith) (omega arith) refl
  part_fine p (suc (suc (suc (suc (suc (suc (suc zero))))))) h f R = hold_fine p 7 h f R 3 (omega arith) (omega arith) (omega arith) (λ v. v)
  part_fine p (suc (suc (suc (suc (suc (suc (suc (suc zero)))))))) h f R = gray_fine p 8 h f R (omega arith) (omega arith) refl
  part_fine p (suc (suc (suc (suc (suc (suc (suc (suc (suc zero))))))))) h f R = let e = R.numbers in
      let z = in_part p 9 h f R (omega arith) in
      step 4 p 9 h f R _ _ _ _ _ _ _ (refl, (le-leb (p + 1) n (omega (arith, z.0)), (refl, (e.1.1.1.0, (e.1.1.1.1.0, tt)))))
      (set_all (λ x. colour_ok x ≡ true) colours p 3 3 R.colours refl) (length-set colours p 3)
  part_fine p (suc (suc (suc (suc (suc (suc (suc (suc (suc (suc k)))))))))) h f R =
      absurd (omega (arith, (in_part p (suc (suc (suc (suc (suc (suc (suc (suc (suc (suc k)))))))))) h f R (omega arith)).1))

  -- ---- stage 5
  -- a cell is swept; at N the cycle closes
  sweeping_fine : (p k h f : ℕ) → InRange (store 5 p k h f) → Dec (p < n) → Leaves 5 p k h f (sweeping (rec 5 p k h f) colours)
  unfolding sweeping place_ok part_ok hold_ok found_ok every
  sweeping_fine p k h f R (yes l) = let e = R.numbers in
      let v = colour-at colours p R.colours (omega (arith, (size 5 p k h f R).0)) in
      rw (lt-ltb p n l, sweeping) (refuse-clear (Leaves 5 p k h f) _ _ _ (inl v, tt) (same 5 p k h f R) (λ t.
      step 5 p k h f R _ _ _ _ _ _ _ (refl, (le-leb (p + 1) n (omega arith), (e.1.1.0, (e.1.1.1.0, (e.1.1.1.1.0, tt)))))
      (set_all (λ x. colour_ok x ≡ true) colours p _ 3 R.colours (swept_ok _ v)) (length-set colours p _)))
  sweeping_fine p k h f R (no l) = let e = R.numbers in rw (le-ltb p n (omega arith), sweeping)
      (step 5 p k h f R _ _ _ _ _ _ _ (refl, (refl, (e.1.1.0, (e.1.1.1.0, (refl, tt))))) R.colours refl)

  -- ---- by the stage
  -- the turn of every stage
  stage_fine : (t p k h f : ℕ) → InRange (store t p k h f) → Leaves t p k h f (by_stage (rec t p k h f) (survey (posted t) desk) fields colours t)
  unfolding by_stage opening posted place_ok part_ok hold_ok found_ok every
  stage_fine zero p k h f R = let e = R.numbers in
      step 0 p k h f R _ _ _ _ _ _ _ (refl, (e.1.0, (e.1.1.0, (e.1.1.1.0, (e.1.1.1.1.0, tt))))) R.colours refl
  stage_fine (suc zero) p k h f R = let e = R.numbers in
      wait_fine 1 p k h f R 1 2 (step 1 p k h f R _ _ _ _ _ _ _ (refl, (refl, (e.1.1.0, (e.1.1.1.0, (refl, tt))))) R.colours refl)
  stage_fine (suc (suc zero)) p k h f R = let e = R.numbers in
      wait_fine 2 p k h f R 2 3 (step 2 p k h f R _ _ _ _ _ _ _ (refl, (le-leb 0 g (omega arith), (e.1.1.0, (e.1.1.1.0, (refl, tt))))) R.colours refl)
  stage_fine (suc (suc (suc zero))) p zero h f R = marking_fine p h f R (dec_lt p g)
  stage_fine (suc (suc (suc zero))) p (suc k) h f R = absurd (omega (arith, part-zero (rec 3 p (suc k) h f) (omega arith) R.numbers.1.1.0))
  stage_fine (suc (suc (suc (suc zero)))) p k h f R = part_fine p k h f R
  stage_fine (suc (suc (suc (suc (suc zero))))) p k h f R = sweeping_fine p k h f R (dec_lt p n)
  stage_fine (suc (suc (suc (suc (suc (suc i)))))) p k h f R = absurd (omega (arith, leb-true (suc (suc (suc (suc (suc (suc i)))))) 5 R.numbers.0))

-- the collector's call
pub collect_fine : (st : Store) → InRange st → st.rec.count < 4294967295 → Fine (collect st)
unfolding collect collector_turn
collect_fine st R b = refuse-clear Fine _ _ _ (inl R.sizes, tt) (λ k l. record { mild = l; after = R }) (λ t.
    refuse-clear (λ o. Fine (put_record st o)) _ _ _ (inl (record_ok_lem st.rec R.numbers b), tt) (λ k l. record { mild = l; after = R }) (λ u.
    stage_fine st.rec.n st.rec.g st.rec.m st.rec.count st.desk st.fields st.colours
    st.rec.stage st.rec.place st.rec.part st.rec.hold st.rec.found R))
