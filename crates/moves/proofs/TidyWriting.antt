-- Tidiness under the writers' moves.
use Rattle.std.specs.Prelude.{◌≡◌, refl, ◌≢◌, ℕ, zero, suc, ◌≤◌, ◌<◌}
use Rattle.std.proofs.Common.{sym, ◌∙◌, ap, subst, arith}
use Rattle.std.proofs.Math.Decide.{dec_lt, ℕ_discrete}
use Rattle.moves.specs.Base.{upd, upd2}
use Rattle.moves.proofs.Base.{upd_same, upd_other, upd_case, upd2_case, upd2-same, upd2_other}
use Rattle.moves.specs.Machine.{Stage, rest, ask1, ask2, roots, scan, sweep, Plan, bare, trace, full, reading}
use Rattle.moves.specs.Machine.{graying_old, graying_new, writing, Made, taken, whiten, Job, idle, answering, storing}
use Rattle.moves.specs.Machine.{creating, Row, St, none, tracing, shade, set_colour, gray, set_field, clear, set_row}
use Rattle.moves.specs.Machine.{with_slot, set_job}
use Rattle.moves.specs.Writing.{Known, page, copy, drop, read, plan_of, first_phase, after_old}
use Rattle.moves.specs.Rows.{job_name, job_tag, job_at}
use Rattle.moves.proofs.Rows.{three-names}
use Rattle.moves.proofs.Colours.{gray_up, gray-dark, gray_3, gray-bound}
use Rattle.moves.specs.Closure.{floor, Live, StatusFits, Closed}
use Rattle.moves.proofs.Closure.{live_used, none-dark, names_of}
use Rattle.moves.proofs.ClosedWriting.{closed-take}
use Rattle.moves.specs.Protection.{OldIs}
use Rattle.moves.proofs.Protection.{old-start, old-read, old-after, old-new}
use Rattle.moves.specs.Tidiness.{StoreDark, JobDark, FreshIn, IsAsk2, Tidy}
use Rattle.moves.proofs.Tidiness.{dark-map, tidy-row}

-- none is not the cell of a creation
none_ne : {σ : Stage} {s : St} → Closed σ s → {w n : ℕ} → FreshIn σ s w n → none ≢ n
none_ne C F = omega (arith, F.small, C.room)

-- what a turn may put into a slot is not another writer's new cell
known_ne : {σ : Stage} {s : St} → Closed σ s → {u n : ℕ} → FreshIn σ s u n → (w v : ℕ) → w < s.M → Known s (s.rows w) v
    → v ≢ n
known_ne C F w v a (page l) = omega (arith, F.page)
known_ne C F w v a (copy k b) = F.slot w k a b
known_ne C F w v a drop = none_ne C F
known_ne C F w v a (read k f b l) = F.field _ f ((C.rows w a).slots k b) l

-- what is asked of the row is as for tidy-row
module _ {σ : Stage} {s : St} (C : Closed σ s) (T : Tidy σ s) (w : ℕ) (r : Row)
    (jd : JobDark σ s.colour r.status r.job)
    (ot : (u n k : ℕ) (m : Made) → u < s.M → u ≢ w → (s.rows u).job ≡ creating m n k → FreshIn σ s u n
    → ((j : ℕ) → j < 8 → r.slots j ≢ n) × ((j : ℕ) → job_name r.job j ≢ n))
    (ow : (m : Made) (n k : ℕ) → r.job ≡ creating m n k → FreshIn σ s w n × ((j : ℕ) → j < 8 → r.slots j ≢ n))
    (st : IsAsk2 σ → r.status ≡ 2 → (x f : ℕ) → f < 4 → ¬ OldIs r.job x f (s.field x f)
    → 2 ≤ s.colour (s.field x f)) where
  -- one row is put back and no colour changes
  tidy_plain : Tidy σ (set_row s w r)
  tidy_plain =
      tidy-row C T s.colour w r (λ u k l n h. h) (λ u k l n h. h) (λ x h. h) T.colours (λ x f l b h. h) jd ot ow st

-- the number v is live
module _ {σ : Stage} {s : St} (C : Closed σ s) (T : Tidy σ s) (v : ℕ) (lv : Live σ s.colour v) (w : ℕ) (r : Row) where
  -- the colours after v is grayed
  abbrev pub grayed : ℕ → ℕ
  grayed = upd s.colour v (shade (s.colour v))

  module _ (jd : JobDark σ grayed r.status r.job)
      (ot : (u n k : ℕ) (m : Made) → u < s.M → u ≢ w → (s.rows u).job ≡ creating m n k → FreshIn σ s u n
      → ((j : ℕ) → j < 8 → r.slots j ≢ n) × ((j : ℕ) → job_name r.job j ≢ n))
      (ow : (m : Made) (n k : ℕ) → r.job ≡ creating m n k → FreshIn σ s w n × ((j : ℕ) → j < 8 → r.slots j ≢ n))
      (st : IsAsk2 σ → r.status ≡ 2 → (x f : ℕ) → f < 4 → ¬ OldIs r.job x f (s.field x f)
      → 2 ≤ s.colour (s.field x f)) where
    -- a live number is grayed and one row put back
    pub tidy-grayed : Tidy σ (set_row (gray s v) w r)
    tidy-grayed = tidy-row C T grayed w r (λ u k l n h. gray_up s.colour v _ h) (λ u k l n h. gray_3 s.colour v _ h)
        (upd_case (λ i x. floor σ i ≤ x → Live σ s.colour i) s.colour v _ (λ _. lv) (λ j n h. h))
        (gray-bound s.colour v T.colours) (λ x f l b h. gray_up s.colour v _ h) jd ot ow
        (λ q e x f b h. gray_up s.colour v _ (st q e x f b h))

-- a new store has the plan that fits its status and stage
plan_dark : (σ : Stage) (st : ℕ) (c : ℕ → ℕ) (v o : ℕ)
    → StoreDark (plan_of st (tracing σ)) (first_phase (plan_of st (tracing σ))) σ c st v o
plan_dark rest zero c v o = (refl, λ t. t)
plan_dark ask1 zero c v o = (refl, λ t. t)
plan_dark ask2 zero c v o = (refl, λ t. t)
plan_dark (roots p) zero c v o = (refl, tt)
plan_dark (scan p k h f) zero c v o = (refl, tt)
plan_dark (sweep p) zero c v o = (refl, λ t. t)
plan_dark σ (suc st) c v o = (omega arith, tt, tt)

-- after the old value is read
dark-read : (p : Plan) (σ : Stage) (c : ℕ → ℕ) (st v o o' : ℕ) → StoreDark p reading σ c st v o
    → StoreDark p graying_old σ c st v o'
dark-read bare σ c st v o o' h = h
dark-read trace σ c st v o o' h = h
dark-read full σ c st v o o' h = h

-- after the old value is grayed
dark-old : (p : Plan) (σ : Stage) (c c' : ℕ → ℕ) (st v o : ℕ) → 2 ≤ c' o → StoreDark p graying_old σ c st v o
    → StoreDark p (after_old p) σ c' st v o
dark-old bare σ c c' st v o d h = h
dark-old trace σ c c' st v o d h = (h.0, λ t. d)
dark-old full σ c c' st v o d h = (h.0, d, tt)

-- after the new value is grayed
dark-new : (p : Plan) (σ : Stage) (c c' : ℕ → ℕ) (st v o : ℕ) → 2 ≤ c' v → (2 ≤ c o → 2 ≤ c' o)
    → StoreDark p graying_new σ c st v o → StoreDark p writing σ c' st v o
dark-new bare σ c c' st v o d u h = h
dark-new trace σ c c' st v o d u h = (h.0, λ t. u (h.1 t))
dark-new full σ c c' st v o d u h = (h.0, u h.1, d)

-- the turns of writer w that change its row, and gray a number or none
module _ {σ : Stage} {s : St} (C : Closed σ s) (T : Tidy σ s) (w : ℕ) (a : w < s.M) where
  -- what the writer's job has grayed, by a guard
  had_dark : {j : Job} → (s.rows w).job ≡ j → JobDark σ s.colour (s.rows w).status j
  had_dark e = subst (λ j. JobDark σ s.colour (s.rows w).status j) e (T.jobs w a)

  -- another writer's new cell is not among the numbers of this writer's job
  not_named : {u n : ℕ} {j : Job} → (s.rows w).job ≡ j → FreshIn σ s u n → u ≢ w → (i : ℕ) → job_name j i ≢ n
  not_named {n = n} e F ne i = subst (λ j. job_name j i ≢ n) e (F.job w i a (λ q. ne (sym q)))

  -- a job that is no creation owes nothing for one
  no_creation : {j : Job} {sl : ℕ → ℕ} → job_tag j ≢ 3 → (m : Made) (n k : ℕ) → j ≡ creating m n k
      → FreshIn σ s w n × ((j : ℕ) → j < 8 → sl j ≢ n)
  no_creation t m n k e = absurd (t (ap job_tag e))

  -- page, copy, drop, read
  pub tidy-load : (k v : ℕ) → (s.rows w).job ≡ idle → Known s (s.rows w) v → Tidy σ (set_row s w (with_slot (s.rows w) k v))
  tidy-load k v e d = tidy_plain C T w _ (T.jobs w a)
      (λ u n _ _ l ne _ F. (
        upd_case (λ j x. j < 8 → x ≢ n) (s.rows w).slots k v (λ _. known_ne C F w v a d) (λ j _ b. F.slot w j a b),
        λ j. F.job w j a (λ q. ne (sym q)),
      ))
      (no_creation (omega (arith, ap job_tag e))) (λ q z x f b h. T.stale q w x f a z b h)

  -- the job becomes idle or an answer, the slots stay
  pub tidy_quiet : (st : ℕ) (j : Job) → job_tag j ≤ 1
      → Tidy σ (set_row s w (record { status = st; slots = (s.rows w).slots; job = j }))
  tidy_quiet st idle t =
      tidy_plain C T w _ tt (λ u n _ _ l ne _ F. (λ j b. F.slot w j a b, λ j. none_ne C F)) (no_creation (omega arith))
      (λ q z x f b h. absurd (h tt))
  tidy_quiet st (answering i) t =
      tidy_plain C T w _ tt (λ u n _ _ l ne _ F. (λ j b. F.slot w j a b, λ j. none_ne C F)) (no_creation (omega arith))
      (λ q z x f b h. absurd (h tt))
  tidy_quiet st (storing p ph c f v o) t = absurd (omega arith)
  tidy_quiet st (creating m n i) t = absurd (omega arith)

  -- an answer grays a slot
  pub tidy-answer : (v i : ℕ) → Live σ s.colour v → Tidy σ (set_job (gray s v) w (answering i))
  tidy-answer v i l =
      tidy-grayed C T v l w _ tt (λ u n _ _ l ne _ F. (λ j b. F.slot w j a b, λ j. none_ne C F)) (no_creation (omega arith))
      (λ q z x f b h. absurd (h tt))

  -- a store's first turn
  pub tidy-store : (x f y : ℕ) → x < 8 → y < 8
      → Tidy σ (set_job s w (storing (plan_of (s.rows w).status (tracing σ))
      (first_phase (plan_of (s.rows w).status (tracing σ))) ((s.rows w).slots x) f ((s.rows w).slots y) none))
  tidy-store x f y b b' = tidy_plain C T w _ (plan_dark σ (s.rows w).status s.colour ((s.rows w).slots y) none)
      (λ u n _ _ l ne _ F. (
        λ j b. F.slot w j a b,
        three-names (λ v. v ≢ n) (plan_of (s.rows w).status (tracing σ))
            (first_phase (plan_of (s.rows w).status (tracing σ))) _ f _ none (F.slot w x a b) (F.slot w y a b') (none_ne C F),
      ))
      (no_creation (omega arith))
      (λ q z i k _ h. absurd (h (old-start (s.rows w).status (tracing σ) ((s.rows w).slots x) f ((s.rows w).slots y) none
      i k (s.field i k))))

  -- the old value is read
  pub tidy-read : (p : Plan) (c f v o : ℕ) → (s.rows w).job ≡ storing p reading c f v o → f < 4
      → Tidy σ (set_job s w (storing p graying_old c f v (s.field c f)))
  tidy-read p c f v o e l = tidy_plain C T w _ (dark-read p σ s.colour (s.rows w).status v o (s.field c f) (had_dark e))
      (λ u n _ _ _ ne _ F. (
        λ j b. F.slot w j a b,
        three-names (λ v. v ≢ n) p graying_old c f v _ (not_named e F ne 0)
            (not_named e F ne 1) (F.field c f (names_of C w a e 0) l),
      ))
      (no_creation (omega arith)) (λ q z x k _ h. absurd (h (old-read s.field p c f v x k)))

  -- the old value is grayed
  pub tidy-old : (p : Plan) (c f v o : ℕ) → (s.rows w).job ≡ storing p graying_old c f v o
      → Tidy σ (set_job (gray s o) w (storing p (after_old p) c f v o))
  tidy-old p c f v o e = tidy-grayed C T o (names_of C w a e 2) w _
      (dark-old p σ s.colour _ (s.rows w).status v o
      (gray-dark s.colour o (live_used σ s.colour o (names_of C w a e 2))) (had_dark e))
      (λ u n _ _ _ ne _ F. (
        λ j b. F.slot w j a b,
        three-names (λ v. v ≢ n) p (after_old p) c f v o (not_named e F ne 0) (not_named e F ne 1) (not_named e F ne 2),
      ))
      (no_creation (omega arith))
      (λ q z x k b h. T.stale q w x k a z b (λ y. h (old-after p c f v o x k _ (subst (λ j. OldIs j x k (s.field x k)) e y))))

  -- the new value is grayed
  pub tidy-new : (p : Plan) (c f v o : ℕ) → (s.rows w).job ≡ storing p graying_new c f v o
      → Tidy σ (set_job (gray s v) w (storing p writing c f v o))
  tidy-new p c f v o e = tidy-grayed C T v (names_of C w a e 1) w _
      (dark-new p σ s.colour _ (s.rows w).status v o
      (gray-dark s.colour v (live_used σ s.colour v (names_of C w a e 1))) (gray_up s.colour v o) (had_dark e))
      (λ u n _ _ _ ne _ F. (
        λ j b. F.slot w j a b,
        three-names (λ v. v ≢ n) p writing c f v o (not_named e F ne 0) (not_named e F ne 1) (not_named e F ne 2),
      ))
      (no_creation (omega arith))
      (λ q z x k b h. T.stale q w x k a z b (λ y. h (old-new p c f v o x k _ (subst (λ j. OldIs j x k (s.field x k)) e y))))

  -- a creation's look
  pub tidy-look : (t t' : Made) (n k : ℕ) → (s.rows w).job ≡ creating t n k → Tidy σ (set_job s w (creating t' n k))
  tidy-look t t' n k e = tidy_plain C T w _ (had_dark e)
      (λ u i _ _ _ ne _ F. (λ j b. F.slot w j a b, λ j. not_named e F ne 0))
      (λ m i k' q. let F = T.fresh w n k t a e in rw (← ap job_at q) (F, λ j b. F.slot w j a b)) (λ q z x f b h. absurd (h tt))

  -- a creation's finish, its cell kept
  pub tidy-keep : (m : Made) (n k : ℕ) → (s.rows w).job ≡ creating m n k
      → Tidy σ (set_row s w (record { status = (s.rows w).status; slots = upd (s.rows w).slots k n; job = idle }))
  tidy-keep m n k e = tidy_plain C T w _ tt
      (λ u i _ _ _ ne _ F. (
        upd_case (λ j x. j < 8 → x ≢ i) (s.rows w).slots k n (λ _. not_named e F ne 0) (λ j _ b. F.slot w j a b),
        λ j. none_ne C F,
      ))
      (no_creation (omega arith)) (λ q z x f b h. absurd (h tt))

-- at the second handshake a store that is about to write has grayed its new value
new-dark : (p : Plan) (σ : Stage) (c : ℕ → ℕ) (st v o : ℕ) → IsAsk2 σ → StatusFits σ st → StoreDark p writing σ c st v o
    → 2 ≤ c v
new-dark p rest c st v o q z h = absurd q
new-dark p ask1 c st v o q z h = absurd q
new-dark bare ask2 c st v o q z h = omega (arith, h.0)
new-dark trace ask2 c st v o q z h = omega (arith, h.0)
new-dark full ask2 c st v o q z h = h.2
new-dark p (roots i) c st v o q z h = absurd q
new-dark p (scan i k y f) c st v o q z h = absurd q
new-dark p (sweep i) c st v o q z h = absurd q

-- the write of writer w
module _ {σ : Stage} {s : St} (C : Closed σ s) (T : Tidy σ s) (w : ℕ) (a : w < s.M) (p : Plan) (c f v o : ℕ)
    (e : (s.rows w).job ≡ storing p writing c f v o) (b : c < s.N) where
  -- the write, the row still as it was
  pub tidy-field : Tidy σ (set_field s c f v)
  tidy-field = record {
    jobs = T.jobs;
    colours = T.colours;
    fresh = λ u n k m l q.
        let F = T.fresh u n k m l q in
        let ne : u ≢ w = λ i. absurd (omega (arith, ap job_tag (sym q ∙ ap (λ i. (s.rows i).job) i ∙ e))) in
        record {
          page = F.page;
          small = F.small;
          slot = F.slot;
          job = F.job;
          field = upd2_case (λ x k y. Live σ s.colour x → k < 4 → y ≢ n) s.field c f v (λ _ _. not_named C T w a e F ne 1)
              (λ x k. F.field x k);
          own = λ i d. upd2_other s.field c f n i v (λ y _. not_named C T w a e F ne 0 (sym y)) ∙ F.own i d;
        };
    stale = λ q u x k l z d h. st q u x k l z d h (ℕ_discrete x c) (ℕ_discrete k f);
    blank = upd2_case (λ x k y. s.N ≤ x → k < 4 → y ≡ none) s.field c f v (λ h _. absurd (omega arith)) T.blank;
  }
    where
      apart : IsAsk2 σ → (u x k : ℕ) → u < s.M → (s.rows u).status ≡ 2 → k < 4
          → ¬ OldIs (s.rows u).job x k (upd2 s.field c f v x k) → (x ≡ c → k ≡ f → ⊥)
          → 2 ≤ s.colour (upd2 s.field c f v x k)
      apart q u x k l z d h ne = let y = upd2_other s.field c f x k v ne in rw y (T.stale q u x k l z d (rw y at h))

      st : IsAsk2 σ → (u x k : ℕ) → u < s.M → (s.rows u).status ≡ 2 → k < 4
          → ¬ OldIs (s.rows u).job x k (upd2 s.field c f v x k) → Dec (x ≡ c) → Dec (k ≡ f)
          → 2 ≤ s.colour (upd2 s.field c f v x k)
      st q u x k l z d h (no ne) _ = apart q u x k l z d h (λ y _. ne y)
      st q u x k l z d h (yes y) (no ne) = apart q u x k l z d h (λ _ y. ne y)
      st q u x k l z d h (yes y) (yes y') =
          rw (y, y', upd2-same s.field c f v)
          (new-dark p σ s.colour (s.rows w).status v o q (C.rows w a).status (had_dark C T w a e))

-- writer w takes the free cell n
module _ {σ : Stage} {s : St} (C : Closed σ s) (T : Tidy σ s) (w k n : ℕ) (a : w < s.M) (l : n < s.N) (z : s.colour n ≡ 0)
  where
    -- a free cell is not live, so nothing names it
    live_apart : (v : ℕ) → Live σ s.colour v → v ≢ n
    live_apart v h q = omega (arith, live_used σ s.colour v h, ap s.colour q)

    -- the store with the cell taken, the row still as it was
    abbrev pub cleared : St
    cleared = clear (set_colour s n 3) n

    -- dark cells stay dark
    take-dark : (i : ℕ) → 2 ≤ s.colour i → 2 ≤ cleared.colour i
    take-dark = upd_case (λ i x. 2 ≤ s.colour i → 2 ≤ x) s.colour n 3 (λ _. omega arith) (λ j m h. h)

    -- black cells stay black
    take-black : (i : ℕ) → s.colour i ≡ 3 → cleared.colour i ≡ 3
    take-black = upd_case (λ i x. s.colour i ≡ 3 → x ≡ 3) s.colour n 3 (λ _. refl) (λ j m h. h)

    -- what holds of none, and of the fields of other cells, holds of all fields
    fields-cleared : (Q : ℕ → ℕ → Type 0) → ((x : ℕ) → Q x none) → ((x f : ℕ) → x ≢ n → f < 4 → Q x (s.field x f)) → (x f : ℕ)
        → f < 4 → Q x (cleared.field x f)
    fields-cleared Q h o x f b = upd_case (λ y r. Q y (r f)) s.field n (λ f. none) (h n) (λ y m. o y f m b) x

    -- no other cell becomes live
    live_cleared : (x : ℕ) → x ≢ n → Live σ cleared.colour x → Live σ s.colour x
    live_cleared x ne h = rw (upd_other s.colour n x 3 ne) at h

    -- the store stays tidy
    tidy-cleared : Tidy σ cleared
    tidy-cleared = record {
      jobs = λ u b. dark-map σ σ s.colour _ (s.rows u).status (s.rows u).job (λ t. t) (λ k. take-dark _)
          (λ k. take-black _) (T.jobs u b);
      fresh = λ u i k m b q. let F = T.fresh u i k m b q in record {
        page = F.page;
        small = F.small;
        slot = F.slot;
        job = F.job;
        field =
            λ x f h d. fields-cleared (λ x y. Live σ cleared.colour x → y ≢ i) (λ x _. none_ne C F)
            (λ x f ne b h. F.field x f (live_cleared x ne h) b) x f d h;
        own =
            λ f d. upd_case (λ y r. y ≡ i → r f ≡ none) s.field n (λ f. none) (λ _. refl)
            (λ y m q. ap (λ y. s.field y f) q ∙ F.own f d) i refl;
      };
      stale = λ q u x f b t d h. go q u x f b t d h (ℕ_discrete x n);
      blank =
          λ x f h d. upd_case (λ y r. s.N ≤ y → r f ≡ none) s.field n (λ f. none) (λ _. refl)
          (λ y m h. T.blank y f h d) x h;
      colours = upd_case (λ i x. x ≤ 3) s.colour n 3 (omega arith) (λ j m. T.colours j);
    }
      where
        go : IsAsk2 σ → (u x f : ℕ) → u < s.M → (s.rows u).status ≡ 2 → f < 4
            → ¬ OldIs (s.rows u).job x f (cleared.field x f)
            → Dec (x ≡ n) → 2 ≤ cleared.colour (cleared.field x f)
        go q u x f b t d h (yes e) =
            rw (ap (λ (r : ℕ → ℕ). r f) (ap (λ x. cleared.field x) e ∙ upd_same s.field n (λ f. none)))
            (take-dark none (none-dark C))
        go q u x f b t d h (no e) =
            let y : cleared.field x f ≡ s.field x f = ap (λ (r : ℕ → ℕ). r f) (upd_other s.field n x (λ f. none) e) in
            rw y (take-dark _ (T.stale q u x f b t d (rw y at h)))

    -- the cell that is taken is fresh
    fresh-cleared : FreshIn σ cleared w n
    fresh-cleared = record {
      small = l;
      page = go (dec_lt n s.g);
      slot = λ u j b d. live_apart _ ((C.rows u b).slots j d);
      job = λ u j b ne. live_apart _ ((C.rows u b).names j);
      field =
          λ x f h d. fields-cleared (λ x y. Live σ cleared.colour x → y ≢ n) (λ x _. omega (arith, C.room))
          (λ x f ne b h. live_apart _ (C.fields x f (live_cleared x ne h) b)) x f d h;
      own = λ f d. ap (λ (r : ℕ → ℕ). r f) (upd_same s.field n (λ f. none));
    }
      where
        go : Dec (n < s.g) → s.g ≤ n
        go (yes h) = absurd (omega (arith, live_used σ s.colour n (C.pages n h)))
        go (no h) = omega arith

    -- a free cell is taken
    pub tidy-take : Tidy σ (set_job cleared w (creating taken n k))
    tidy-take = tidy_plain (closed-take C n l z) tidy-cleared w _ (λ _. upd_same s.colour n 3, λ _. upd_same s.colour n 3)
        (λ u i _ _ b ne e F. (λ j d. F.slot w j a d, λ j q. live_apart _ (names_of C u b e 0) (sym q)))
        (λ m i _ q. rw (← ap job_at q) (fresh-cleared, λ j d. fresh-cleared.slot w j a d)) (λ q t x f b h. absurd (h tt))

-- writer w finishes a creation that has decided white
module _ {σ : Stage} {s : St} (C : Closed σ s) (T : Tidy σ s) (w k n : ℕ) (a : w < s.M)
    (e : (s.rows w).job ≡ creating whiten n k) where
  -- a creation's finish, its cell made white: nobody else names it
  pub tidy-white : Tidy σ (set_row (set_colour s n 1) w
      (record { status = (s.rows w).status; slots = upd (s.rows w).slots k n; job = idle }))
  tidy-white =
      let F = T.fresh w n k whiten a e in
      tidy-row C T (upd s.colour n 1) w _
      (λ u j l ne h. rw (upd_other s.colour n _ 1 (F.job u j l ne)) h)
      (λ u j l ne h. rw (upd_other s.colour n _ 1 (F.job u j l ne)) h)
      (upd_case (λ i x. floor σ i ≤ x → Live σ s.colour i) s.colour n 1 (λ _. names_of C w a e 0) (λ j m h. h))
      (upd_case (λ i x. x ≤ 3) s.colour n 1 (omega arith) (λ j m. T.colours j))
      (λ x f l b h. rw (upd_other s.colour n _ 1 (F.field x f l b)) h)
      tt
      (λ u i _ _ _ ne _ F. (
        upd_case (λ j x. j < 8 → x ≢ i) (s.rows w).slots k n (λ _. not_named C T w a e F ne 0) (λ j _ b. F.slot w j a b),
        λ j. none_ne C F,
      ))
      (no_creation C T w a (omega arith)) (λ q z x f b h. absurd (h tt))
