-- The collector's turn is one move, or changes nothing.
use Prim.Native.Nat.{ℕ, zero, suc, ◌+◌, ◌*◌, ◌≤◌, ◌<◌}
use Rattle.std.specs.Prelude.{◌≡◌, Bool, ◌≢◌, List, length}
use Rattle.std.proofs.Math.Path.{refl, ap}
use Rattle.std.proofs.Common.{◌∙◌}
use Rattle.std.proofs.Math.Bool.{true, false}
use Rattle.std.proofs.Math.Logic.{inl, inr}
use native.Mathlib.Omega.{arith}
use Rattle.std.proofs.Math.Decide.{dec_lt, ℕ_discrete}
use Rattle.std.proofs.Math.ListN.{get_or}
use borrow.Author.Tests.{ltb-true, leb-true, eqb-true, lt-ltb, le-ltb, eq-eqb, ne_eqb}
use Rattle.moves.specs.Base.{upd}
use Rattle.moves.specs.Machine as Abstract
use Rattle.moves.specs.Collecting as Collecting
use Rattle.moves.specs.Moves.{by-collector}
use Rattle.machine.specs.Choice.{pick, all, refuse}
use Rattle.machine.specs.ChoiceLaws.{hold, all-at, Passed, refuse-cases}
use Rattle.machine.specs.Limits.{none}
use Rattle.machine.specs.Stage.{posted}
use Rattle.machine.specs.Store.{Store, fresh_row}
use Rattle.machine.specs.Range.{place_ok, part_ok, hold_ok, found_ok, record_ok, colour_ok}
use Rattle.machine.specs.Gray.{grayed}
use Rattle.machine.specs.Turns.{worked, waited, Collected, collected}
use Rattle.machine.specs.Collector.{has_status, survey, entering, barred, opening, waiting, marking, end_pass}
use Rattle.machine.specs.Collector.{scan_place, scan_hold, scan_gray, scan_close, scanning, swept, sweeping, by_stage}
use Rattle.machine.specs.Collector.{collector_turn}
use Rattle.machine.specs.Machine.{put_record, collect}
use Rattle.machine.specs.declared.Record.{Record}
use Rattle.machine.specs.declared.Row.{Row}
use Rattle.runs.specs.Abs.{abs_row, abs_fields, Eight, Steps}
use Rattle.runs.proofs.Abs.{any_default, get_or-upd, abs-grayed, field_in, fit}
use Rattle.machine.specs.declared.Refusal.{Refusal}

-- what the sweep makes of a colour
swept-abs : (b : ℕ) → b ≤ 3 → swept b ≡ Collecting.swept_to b
unfolding swept
swept-abs zero h = refl
swept-abs (suc zero) h = refl
swept-abs (suc (suc zero)) h = refl
swept-abs (suc (suc (suc zero))) h = refl
swept-abs (suc (suc (suc (suc b)))) h = absurd (omega arith)

-- ---- what "in range" says of the record's numbers
-- part 0 outside stage 4
pub part-zero : (rec : Record) → rec.stage ≢ 4 → part_ok rec ≡ true → rec.part ≡ 0
unfolding part_ok
part-zero rec s e = go (ℕ_discrete rec.part 0)
  where
    go : Dec (rec.part ≡ 0) → rec.part ≡ 0
    go (yes z) = z
    go (no z) = absurd (s (eqb-true rec.stage 4 (hold _ (rw (ne_eqb rec.part 0 z, part_ok) at e)).0))

-- in a part above 0 the place is a cell
pub part_in : (rec : Record) → part_ok rec ≡ true → rec.part ≢ 0 → (rec.place < rec.n) × (rec.part ≤ 9)
unfolding part_ok
part_in rec e z = let t = hold _ (rw (ne_eqb rec.part 0 z, part_ok) at e) in (ltb-true _ _ t.1.0, leb-true _ _ t.1.1.0)

-- found is 0 or 1
found_in : (rec : Record) → found_ok rec ≡ true → rec.found ≤ 1
unfolding found_ok
found_in rec e = go (ℕ_discrete rec.found 0)
  where
    go : Dec (rec.found ≡ 0) → rec.found ≤ 1
    go (yes z) = omega arith
    go (no z) = omega (arith, eqb-true rec.found 1 (hold _ (rw (ne_eqb rec.found 0 z, found_ok) at e)).0)

-- a store by its parts, the record by its numbers: stage, place, part, hold and found are arguments of the lemmas
module _ (n g m c : ℕ) (desk : List Row) (fields colours : List ℕ) (E : Eight desk) where
  abbrev rec : ℕ → ℕ → ℕ → ℕ → ℕ → Record
  rec t p k h f = record { n = n; g = g; m = m; stage = t; place = p; part = k; hold = h; found = f; count = c }

  abbrev store : ℕ → ℕ → ℕ → ℕ → ℕ → Store
  store t p k h f = record { rec = rec t p k h f; desk = desk; fields = fields; colours = colours }

  -- what this turn of the collector leaves is one move, or nothing changed
  abbrev Goes : ℕ → ℕ → ℕ → ℕ → ℕ → Collected → Type 0
  Goes t p k h f o = Steps (store t p k h f) (put_record (store t p k h f) o)

  -- the store of moves after a working turn, with these colours
  abbrev ticked : (ℕ → ℕ) → Abstract.St
  ticked cl = record { N = n; g = g; M = m; count = c + 1; colour = cl; field = abs_fields fields; rows = λ w. abs_row (get_or desk w fresh_row) }

  -- a turn that is refused changes nothing; if none of its tests fails it is the outcome
  guard : (t p k h f : ℕ) (ts : List (Bool × Refusal)) (o : Collected) → (Passed ts → Goes t p k h f o)
      → Goes t p k h f (refuse (barred (rec t p k h f) colours) ts o)
  guard t p k h f ts o = refuse-cases (Goes t p k h f) _ ts o (λ i. inr (refl, refl))

  module _ (ld : length desk ≡ m) (lf : length fields ≡ n * 4) (lc : length colours ≡ n) where
    -- ---- waiting tests
    -- all statuses are the number
    each : (k : ℕ) → all (has_status k) desk ≡ true → (w : ℕ) → w < m → (get_or desk w fresh_row).status ≡ k
    unfolding has_status
    each k e w l = eqb-true _ k (all-at (has_status k) desk w fresh_row e (omega arith))

    -- a waiting turn waits, or goes to the next stage where all statuses are the number
    wait_moves : (t p k h f number next : ℕ)
        → (all (has_status number) desk ≡ true → Goes t p k h f (collected (worked (entering (rec t p k h f) next)) colours))
        → Goes t p k h f (collected (waiting (rec t p k h f) (survey number desk) next) colours)
    unfolding waiting survey
    wait_moves t p k h f number next All-same =
        refuse-cases (λ r. Goes t p k h f (collected (waiting (rec t p k h f) r next) colours)) _ _ _ (λ k. inr (refl, refl)) (λ u. go (all (has_status number) desk) refl)
      where
        go : (b : Bool) → all (has_status number) desk ≡ b
            → Goes t p k h f (collected (pick b (worked (entering (rec t p k h f) next)) (waited (rec t p k h f))) colours)
        go true e = All-same e
        go false e = inr (refl, refl)

    -- ---- stage 3
    -- below g a page is grayed; at g the turn waits for all statuses to be 0
    marking-moves : (p f : ℕ) → p ≤ g → Dec (p < g) → Goes 3 p 0 none f (marking (rec 3 p 0 none f) (survey 0 desk) colours)
    unfolding marking
    marking-moves p f b (yes l) = rw (lt-ltb p g l, marking) (guard 3 p 0 none f _ _
        (λ t. inl (by-collector (Collecting.root p l), ap ticked (abs-grayed colours p), refl, refl, E)))
    marking-moves p f b (no l) = rw (at_g, le-ltb g g (omega arith), marking)
        (wait_moves 3 g 0 none f 0 4 (λ e. inl (by-collector (Collecting.rooted (each 0 e)), refl, refl, refl, E)))
      where
        at_g : p ≡ g
        at_g = omega arith

    -- ---- stage 4: part 0, then by the part
    -- a gray cell is opened, another is passed; at N the pass ends
    place-moves : (p f : ℕ) → p ≤ n → f ≤ 1 → Dec (p < n) → Dec (get_or colours p 0 ≡ 2) → Goes 4 p 0 none f (scan_place (rec 4 p 0 none f) colours)
    unfolding scan_place end_pass
    place-moves p f b b' (yes l) (yes e) = rw (lt-ltb p n l, eq-eqb (get_or colours p 0) 2 e, scan_place) (guard 4 p 0 none f _ _
        (λ t. inl (by-collector (Collecting.opened p f l (any_default colours p 3 0 (omega arith) ∙ e)), refl, refl, refl, E)))
    place-moves p f b b' (yes l) (no e) = rw (lt-ltb p n l, ne_eqb (get_or colours p 0) 2 e, scan_place) (guard 4 p 0 none f _ _
        (λ t. inl (by-collector (Collecting.skip p f l (λ q. e (any_default colours p 0 3 (omega arith) ∙ q))), refl, refl, refl, E)))
    place-moves p f b b' (no l) _ = rw at_n (end f b')
      where
        at_n : p ≡ n
        at_n = omega arith

        end : (f : ℕ) → f ≤ 1 → Goes 4 n 0 none f (scan_place (rec 4 n 0 none f) colours)
        end zero b = rw (le-ltb n n (omega arith), scan_place) (inl (by-collector Collecting.scanned, refl, refl, refl, E))
        end (suc zero) b = rw (le-ltb n n (omega arith), scan_place) (inl (by-collector Collecting.again, refl, refl, refl, E))
        end (suc (suc f)) b = absurd (omega arith)

    -- parts 1, 3, 5, 7: field i goes to the hold
    hold-moves : (p i f k k' : ℕ) → p < n → i < 4 → k ≡ suc (i + i) → k' ≡ suc (suc (i + i))
        → Goes 4 p k none f (collected (worked (rec 4 p k' (get_or fields (p * 4 + i) 0) f)) colours)
    hold-moves p i f k k' l b e e' = rw (e, e')
        (inl (by-collector (Collecting.hold p i f b), refl, ap (λ h. Abstract.scan p (suc (suc (i + i))) h f) (field_in fields p i b (omega arith)), refl, E))

    -- parts 2, 4, 6, 8: the hold is grayed
    gray-moves : (p i h f k k' : ℕ) → i < 4 → k ≡ suc (suc (i + i)) → k' ≡ suc (suc (suc (i + i)))
        → Goes 4 p k h f (collected (worked (rec 4 p k' none f)) (grayed colours h))
    gray-moves p i h f k k' b e e' = rw (e, e') (inl (by-collector (Collecting.gray-hold p i h f b), ap ticked (abs-grayed colours h), refl, refl, E))

    -- the scan's turns, by the part
    part-moves : (p k h f : ℕ) → p ≤ n → (k ≢ 0 → (p < n) × (k ≤ 9)) → hold_ok (rec 4 p k h f) ≡ true → f ≤ 1
        → Goes 4 p k h f (scanning (rec 4 p k h f) fields colours k)
    unfolding scanning scan_hold scan_gray scan_close hold_ok
    part-moves p zero h f b q e l = rw (eqb-true h none e) (place-moves p f b l (dec_lt p n) (ℕ_discrete (get_or colours p 0) 2))
    part-moves p (suc zero) h f b q e l =
        rw (eqb-true h none e) (guard 4 p 1 none f _ _ (λ t. hold-moves p 0 f 1 2 (q (omega arith)).0 (omega arith) refl refl))
    part-moves p (suc (suc zero)) h f b q e l = guard 4 p 2 h f _ _ (λ t. gray-moves p 0 h f 2 3 (omega arith) refl refl)
    part-moves p (suc (suc (suc zero))) h f b q e l =
        rw (eqb-true h none e) (guard 4 p 3 none f _ _ (λ t. hold-moves p 1 f 3 4 (q (omega arith)).0 (omega arith) refl refl))
    part-moves p (suc (suc (suc (suc zero)))) h f b q e l = guard 4 p 4 h f _ _ (λ t. gray-moves p 1 h f 4 5 (omega arith) refl refl)
    part-moves p (suc (suc (suc (suc (suc zero))))) h f b q e l =
        rw (eqb-true h none e) (guard 4 p 5 none f _ _ (λ t. hold-moves p 2 f 5 6 (q (omega arith)).0 (omega arith) refl refl))
    part-moves p (suc (suc (suc (suc (suc (suc zero)))))) h f b q e l = guard 4 p 6 h f _ _ (λ t. gray-moves p 2 h f 6 7 (omega arith) refl refl)
    part-moves p (suc (suc (suc (suc (suc (suc (suc zero))))))) h f b q e l =
        rw (eqb-true h none e) (guard 4 p 7 none f _ _ (λ t. hold-moves p 3 f 7 8 (q (omega arith)).0 (omega arith) refl refl))
    part-moves p (suc (suc (suc (suc (suc (suc (suc (suc zero)))))))) h f b q e l = guard 4 p 8 h f _ _ (λ t. gray-moves p 3 h f 8 9 (omega arith) refl refl)
    part-moves p (suc (suc (suc (suc (suc (suc (suc (suc (suc zero))))))))) h f b q e l = let z = q (omega arith) in
        rw (eqb-true h none e) (inl (by-collector (Collecting.done p f z.0), ap ticked (get_or-upd colours p 3 3 (omega (arith, z.0))), refl, refl, E))
    part-moves p (suc (suc (suc (suc (suc (suc (suc (suc (suc (suc k)))))))))) h f b q e l = absurd (omega (arith, (q (omega arith)).1))

    -- ---- stage 5
    -- a cell is swept; at N the cycle closes
    sweeping-moves : (p k h f : ℕ) → p ≤ n → Dec (p < n) → Goes 5 p k h f (sweeping (rec 5 p k h f) colours)
    unfolding sweeping colour_ok
    sweeping-moves p k h f b (yes l) = rw (lt-ltb p n l, sweeping) (guard 5 p k h f _ _ (λ t. inl (
      by-collector (Collecting.swept p l),
      ap ticked (get_or-upd colours p _ 3 (omega arith)
          ∙ ap (λ v. upd (λ j. get_or colours j 3) p v) (swept-abs (get_or colours p 0) (leb-true _ _ t.0) ∙ ap Collecting.swept_to (any_default colours p 0 3 (omega arith)))),
      refl,
      refl,
      E,
    )))
    sweeping-moves p k h f b (no l) = rw (at_n, le-ltb n n (omega arith), sweeping) (inl (by-collector Collecting.closing, refl, refl, refl, E))
      where
        at_n : p ≡ n
        at_n = omega arith

    -- ---- by the stage
    -- the turn of every stage
    stage-moves : (t p k h f : ℕ) → record_ok (rec t p k h f) ≡ true
        → Goes t p k h f (by_stage (rec t p k h f) (survey (posted t) desk) fields colours t)
    unfolding by_stage opening posted record_ok place_ok hold_ok
    stage-moves zero p k h f e = inl (by-collector Collecting.opening, refl, refl, refl, E)
    stage-moves (suc zero) p k h f e = wait_moves 1 p k h f 1 2 (λ a. inl (by-collector (Collecting.asked1 (each 1 a)), refl, refl, refl, E))
    stage-moves (suc (suc zero)) p k h f e = wait_moves 2 p k h f 2 3 (λ a. inl (by-collector (Collecting.asked2 (each 2 a)), refl, refl, refl, E))
    stage-moves (suc (suc (suc zero))) p k h f e = let t = hold _ e in
        let z = part-zero (rec 3 p k h f) (omega arith) t.1.1.0 in
        rw (z, eqb-true h none (rw z at t.1.1.1.0)) (marking-moves p f (leb-true _ _ t.1.0) (dec_lt p g))
    stage-moves (suc (suc (suc (suc zero)))) p k h f e = let t = hold _ e in
        part-moves p k h f (leb-true _ _ t.1.0) (part_in (rec 4 p k h f) t.1.1.0) t.1.1.1.0 (found_in (rec 4 p k h f) t.1.1.1.1.0)
    stage-moves (suc (suc (suc (suc (suc zero))))) p k h f e = sweeping-moves p k h f (leb-true _ _ (hold _ e).1.0) (dec_lt p n)
    stage-moves (suc (suc (suc (suc (suc (suc i)))))) p k h f e = absurd (omega (arith, leb-true (suc (suc (suc (suc (suc (suc i)))))) 5 (hold _ e).0))

-- the collector's call, after its refusals
pub collect-moves : (st : Store) → Eight st.desk → Steps st (collect st)
unfolding collect collector_turn
collect-moves st E = refuse-cases (Steps st) _ _ _ (λ k. inr (refl, refl)) (λ t. let F = fit st t.0 in
    refuse-cases (λ o. Steps st (put_record st o)) _ _ _ (λ k. inr (refl, refl)) (λ u.
    stage-moves st.rec.n st.rec.g st.rec.m st.rec.count st.desk st.fields st.colours E F.desk F.fields F.colours
    st.rec.stage st.rec.place st.rec.part st.rec.hold st.rec.found u.0))
