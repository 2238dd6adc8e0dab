-- Create, and the turns of its job.
use Rattle.std.specs.Prelude.{ℕ, zero, suc, ◌+◌, ◌*◌, ◌<◌, ◌≡◌, Bool, true, false, cond, ◌≢◌, List, [], ◌∷◌, ltb, eqb, set, Some, None, Result, Ok, Err}
use Rattle.std.proofs.Math.Path.{refl, ap, fun_ext}
use Rattle.std.proofs.Common.{◌∙◌, arith, get_or-set_same, get_or-set_other, ltb-true, le-ltb, eq-eqb, ne_eqb}
use Rattle.std.proofs.Math.Logic.{inl}
use Rattle.std.proofs.Math.Decide.{dec_lt, ℕ_discrete}
use Rattle.std.proofs.Math.ListN.{length, get_or, get_or-eq_default}
use Rattle.std.proofs.Math.Seq.{set_out}
use Rattle.moves.specs.Base.{upd}
use Rattle.moves.proofs.Base.{upd_case}
use Rattle.moves.specs.Machine as Abstract
use Rattle.moves.specs.Writing as Writing
use Rattle.moves.specs.Moves.{by-writer}
use Rattle.machine.specs.ChoiceLaws.{refuse-cases}
use Rattle.machine.specs.Choice.{pick, differ}
use Rattle.machine.specs.Limits.{none}
use Rattle.machine.specs.Stage.{tracing, hand}
use Rattle.machine.specs.Store.{Store}
use Rattle.machine.specs.Range.{colour_ok}
use Rattle.machine.specs.Parts.{with_slot, with_job}
use Rattle.machine.specs.Creating.{lowest_free, emptied, take_cell, take, create, decided, look, next_creating}
use Rattle.machine.specs.Machine.{row_of}
use Rattle.machine.specs.declared.Record.{Record}
use Rattle.machine.specs.declared.Row.{Row}
use Rattle.machine.specs.declared.Look.{Look}
use Rattle.machine.specs.declared.Look.TheVariants.{Ahead, Keep, White}
use Rattle.machine.specs.declared.Refusal.{Refusal}
use Rattle.machine.specs.declared.Work.TheVariants.{Creating}
use Rattle.runs.specs.Abs.{stage_at, stage_in, abs_look, abs_job, abs_fields, abs}
use Rattle.runs.proofs.Abs.{get_or-upd, abs-rows, eight-put}
use Rattle.runs.specs.Frame.{Wrote, At}
use Rattle.runs.proofs.Frame.{put_same, idle_is, in_desk, put-row, put-job, job-eight, slot-set, slot-eight}
use Rattle.machine.specs.declared.Refusal.TheVariants.{BadNumber}

-- ---- take: the lowest free cell is free, and its fields are emptied
-- the cell c that is found is free: it is i + j, with colour 0 at j
abbrev Found : ℕ → List ℕ → ℕ → Type 0
Found i l c = (j : ℕ) × (c ≡ i + j) × (j < length l) × (get_or l j 3 ≡ 0)

-- the look for the lowest free cell
pub free_is : (i : ℕ) (l : List ℕ) (c : ℕ) → lowest_free i l ≡ Ok c → Found i l c
unfolding lowest_free
free_is i [] c e = let z : ◌≡◌ {A = ℕ} 0 1 = cc in absurd (omega arith)
free_is i (b ∷ bs) c e = go (ℕ_discrete b 0) (colour_ok b) (λ q. free_is (i + 1) bs c q) e
  where
    same : ◌≡◌ {A = Result ℕ Refusal} (Ok i) (Ok c) → i ≡ c
    same p = cc

    past : (t : Bool) → (lowest_free (i + 1) bs ≡ Ok c → Found (i + 1) bs c) → pick t (lowest_free (i + 1) bs) (Err BadNumber) ≡ Ok c → Found i (b ∷ bs) c
    past true h q = let k = h q in (suc k.0, omega (arith, k.1), omega (arith, k.2), k.3)
    past false h q = let z : ◌≡◌ {A = ℕ} 0 1 = cc in absurd (omega arith)

    go : Dec (b ≡ 0) → (t : Bool) → (lowest_free (i + 1) bs ≡ Ok c → Found (i + 1) bs c)
        → pick (eqb b 0) (Ok i) (pick t (lowest_free (i + 1) bs) (Err BadNumber)) ≡ Ok c → Found i (b ∷ bs) c
    go (yes z) t h q = (0, omega (arith, same (rw (eq-eqb b 0 z) at q)), omega arith, z)
    go (no n) t h q = past t h (rw (ne_eqb b 0 n) at q)

-- the fields of the cell taken are none
emptied-abs : (l : List ℕ) (n : ℕ) → abs_fields (emptied l n) ≡ upd (abs_fields l) n (λ f. none)
unfolding emptied
emptied-abs l n = fun_ext (λ y. fun_ext (λ k. upd_case (λ y r. abs_fields (emptied l n) y k ≡ r k) (abs_fields l) n (λ f. none)
    (inside k (ltb k 4) refl) (λ y ne. outside y k ne (ltb k 4) refl) y))
  where
    l1 : List ℕ
    l1 = set l (n * 4 + 0) none

    l2 : List ℕ
    l2 = set l1 (n * 4 + 1) none

    l3 : List ℕ
    l3 = set l2 (n * 4 + 2) none

    -- none at i, where it is none elsewhere or i itself
    none-at : (l : List ℕ) (i j : ℕ) → (j ≢ i → get_or l j none ≡ none) → get_or (set l i none) j none ≡ none
    none-at l i j h = go (ℕ_discrete j i) (dec_lt i (length l))
      where
        go : Dec (j ≡ i) → Dec (i < length l) → get_or (set l i none) j none ≡ none
        go (yes e) (yes b) = rw e (get_or-set_same l i none none b)
        go (yes e) (no b) = rw (set_out l i none (omega arith), e) (get_or-eq_default l none (omega arith))
        go (no n) _ = get_or-set_other l i j none none n ∙ h n

    inside : (k : ℕ) (t : Bool) → ltb k 4 ≡ t → cond t (get_or (emptied l n) (n * 4 + k) none) none ≡ none
    inside k false e = refl
    inside k true e =
        none-at l3 (n * 4 + 3) (n * 4 + k) (λ a. none-at l2 (n * 4 + 2) (n * 4 + k) (λ b. none-at l1 (n * 4 + 1) (n * 4 + k) (λ c.
        none-at l (n * 4 + 0) (n * 4 + k) (λ d. absurd (omega (arith, ltb-true k 4 e))))))

    outside : (y k : ℕ) → y ≢ n → (t : Bool) → ltb k 4 ≡ t → cond t (get_or (emptied l n) (y * 4 + k) none) none ≡ cond t (get_or l (y * 4 + k) none) none
    outside y k ne false e = refl
    outside y k ne true e = let b = ltb-true k 4 e in
        get_or-set_other l3 (n * 4 + 3) (y * 4 + k) none none (omega arith) ∙ get_or-set_other l2 (n * 4 + 2) (y * 4 + k) none none (omega arith)
        ∙ get_or-set_other l1 (n * 4 + 1) (y * 4 + k) none none (omega arith) ∙ get_or-set_other l (n * 4 + 0) (y * 4 + k) none none (omega arith)

-- ---- look: the hand, and what is decided
hand-abs : (rec : Record) → hand rec ≡ Abstract.hand rec.n (stage_in rec)
unfolding hand tracing
hand-abs rec = go rec.stage refl
  where
    go : (t : ℕ) → rec.stage ≡ t → pick (ltb t 3) rec.n (pick (tracing t) 0 rec.place) ≡ Abstract.hand rec.n (stage_at t rec.place rec.part rec.hold rec.found)
    go zero e = refl
    go (suc zero) e = refl
    go (suc (suc zero)) e = refl
    go (suc (suc (suc zero))) e = refl
    go (suc (suc (suc (suc zero)))) e = refl
    go (suc (suc (suc (suc (suc i))))) e =
        rw (le-ltb (suc (suc (suc (suc (suc i))))) 3 (omega arith), ne_eqb (suc (suc (suc (suc (suc i))))) 3 (omega arith), ne_eqb (suc (suc (suc (suc (suc i))))) 4 (omega arith), tracing)

-- what the look decides
decided-abs : (u : ℕ) (t : Bool) → abs_look (pick (differ u 0) White (pick t White Keep)) ≡ Writing.looked u t
decided-abs zero true = refl
decided-abs zero false = refl
decided-abs (suc u) t = rw (ne_eqb (suc u) 0 (omega arith))

module _ {st : Store} {w : ℕ} (H : At st w) where
  abbrev row : Row
  row = row_of st w

  -- the first turn, by what the look for a free cell finds
  take-moves : (s : ℕ) → row.job ≡ None → (r : Result ℕ Refusal) → lowest_free 0 st.colours ≡ r → Wrote st w (take row st.fields st.colours s r)
  unfolding take take_cell with_job
  take-moves s e (Err k) q = put_same st w k
  take-moves s e (Ok c) q = let k = free_is 0 st.colours c q in
      let l : c < length st.colours = omega (arith, k.1, k.2) in
      inl (
        by-writer (Writing.take w s c H.writer (ap abs_job e) (omega (arith, H.fit.colours)) (ap (λ i. get_or st.colours i 3) (omega (arith, k.1)) ∙ k.3)),
        (λ i. record {
          N = st.rec.n;
          g = st.rec.g;
          M = st.rec.m;
          count = st.rec.count;
          colour = get_or-upd st.colours c 3 3 l i;
          field = emptied-abs st.fields c i;
          rows = abs-rows st.desk w (with_job row (Some (Creating (record { slot = s; cell = c; look = Ahead })))) (in_desk H) i;
        }),
        refl,
        refl,
        job-eight H _,
      )

  -- create, after its refusals
  pub create-moves : (s : ℕ) → Wrote st w (create st.rec row st.fields st.colours s)
  unfolding create
  create-moves s = refuse-cases (Wrote st w) _ _ _ (put_same st w) (λ t.
      take-moves s (idle_is row.job t.1.1.0) (lowest_free 0 st.colours) refl)

  -- the look; the finish, without white and with it
  pub creating-moves : (s c : ℕ) (l : Look) → s < 8 → c < st.rec.n → row.job ≡ Some (Creating (record { slot = s; cell = c; look = l }))
      → Wrote st w (next_creating st.rec row st.fields st.colours (record { slot = s; cell = c; look = l }) l)
  unfolding next_creating look decided with_slot with_job
  creating-moves s c Ahead b d e = inl (
    by-writer (Writing.look w s c H.writer (ap abs_job e)),
    put-job H _ _ (ap (λ m. Abstract.creating m c s) (decided-abs row.status (ltb c (hand st.rec))
        ∙ ap (λ h. Writing.looked row.status (ltb c h)) (hand-abs st.rec))),
    refl,
    refl,
    job-eight H _,
  )
  creating-moves s c Keep b d e = inl (
    by-writer (Writing.keep w s c H.writer (ap abs_job e)),
    put-row H _ st.colours _ refl ∙ ap (λ f. Abstract.set_row (abs st) w (record { status = row.status; slots = f; job = Abstract.idle })) (slot-set H s c b),
    refl,
    refl,
    eight-put st.desk w _ H.eight (slot-eight H s c),
  )
  creating-moves s c White b d e = inl (
    by-writer (Writing.white w s c H.writer (ap abs_job e)),
    put-row H _ (set st.colours c 1) _ (get_or-upd st.colours c 1 3 (omega (arith, H.fit.colours)))
        ∙ ap (λ f. Abstract.set_row (Abstract.set_colour (abs st) c 1) w (record { status = row.status; slots = f; job = Abstract.idle })) (slot-set H s c b),
    refl,
    refl,
    eight-put st.desk w _ H.eight (slot-eight H s c),
  )
