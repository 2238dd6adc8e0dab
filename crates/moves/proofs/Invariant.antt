-- Every move keeps the invariant.
use Rattle.std.specs.Prelude.{◌≡◌, refl, ◌≢◌, ◌⊎◌, ℕ, suc, ◌+◌, ◌≤◌, ◌<◌, ltb}
use Rattle.std.proofs.Common.{sym, ◌∙◌, ap, subst, inl, inr, arith}
use Rattle.std.proofs.Math.Decide.{ℕ_discrete}
use Rattle.moves.specs.Base.{upd}
use Rattle.moves.proofs.Base.{upd_same, upd_case}
use Rattle.moves.specs.Machine.{Stage, rest, ask1, ask2, roots, scan, sweep, Plan, bare, trace, full, writing, taken}
use Rattle.moves.specs.Machine.{kept, Job, idle, answering, creating, Row, St, none, posted, hand}
use Rattle.moves.specs.Writing.{looked, Writing, load, answer_post, answer-start, answer-gray, answer-end, store-start}
use Rattle.moves.specs.Writing.{store-read, store-old, store-new, store-write, take, look, keep, white, written}
use Rattle.moves.specs.Collecting.{Collecting, opening, asked1, asked2, root, rooted, skip, opened, again, scanned}
use Rattle.moves.specs.Collecting.{hold, gray-hold, done, swept, closing, next-stage, collected}
use Rattle.moves.specs.Moves.{Move, by-writer, by-collector, stage', after}
use Rattle.moves.specs.Rows.{job_name, job_tag, job_at, made_tag, job_made}
use Rattle.moves.proofs.Rows.{made_kept}
use Rattle.moves.proofs.Colours.{gray_back, swept_3}
use Rattle.moves.specs.Closure.{StatusFits, MayAnswer}
use Rattle.moves.proofs.Closure.{none-dark, names_of, fits_of}
use Rattle.moves.proofs.ClosedWriting.{closed-write, closed-writing}
use Rattle.moves.specs.ClosedCollecting.{Clean}
use Rattle.moves.proofs.ClosedCollecting.{closing_down, closed-collecting}
use Rattle.moves.specs.Protection.{Tracing, dark, Guard, Guarded}
use Rattle.moves.proofs.Protection.{Guard-fold}
use Rattle.moves.specs.Tidiness.{StoreDark, JobDark}
use Rattle.moves.specs.Making.{Makes, Blacks}
use Rattle.moves.proofs.Making.{blacks-row, not_maker, looked-hand}
use Rattle.moves.proofs.GuardedWriting.{guarded-load, guarded-start, guarded-answer, guarded-end, guarded-store}
use Rattle.moves.specs.GuardedWriting.{NotBare}
use Rattle.moves.proofs.GuardedWriting.{guarded-read, guarded-old, guarded-new, guarded-look, guarded-keep}
use Rattle.moves.proofs.GuardedWriting.{guarded-write, guarded-take, guarded_whitened}
use Rattle.moves.proofs.GuardedCollecting.{guarded-asked2, guarded-root, guarded-rooted, guarded-skip, guarded-opened}
use Rattle.moves.proofs.GuardedCollecting.{guarded-hold, guarded-gray-hold, guarded-done}
use Rattle.moves.proofs.TidyWriting.{tidy-load, tidy_quiet, tidy-answer, tidy-store, tidy-read, tidy-old, tidy-new}
use Rattle.moves.proofs.TidyWriting.{tidy-look, tidy-keep, tidy-field, tidy-take, tidy-white}
use Rattle.moves.proofs.TidyCollecting.{tidy-same, tidy-asked2, tidy-gray, tidy-done, tidy-swept}
use Rattle.moves.specs.Scan.{GrayAhead, IsScan}
use Rattle.moves.proofs.Scan.{ahead-gray, ahead-take, ahead-white, ahead-skip, ahead-part, ahead_any, ahead-done}
use Rattle.moves.specs.Invariant.{Inv}

-- where a pass ends that opened no cell, no cell is gray
pub no-gray : {s : St} {f : ℕ} → Inv (scan s.N 0 none f) s → f ≡ 0 → (x : ℕ) → s.colour x ≡ 2 → ⊥
no-gray {s} I z x e =
    let y = (subst (λ f. GrayAhead (scan s.N 0 none f) s.colour) z I.ahead).1 x e in
    omega (arith, I.closed.nil y.0 y.1, y.2)

-- The scan's end: what is guarded is black, so all that is named is.
clean : {s : St} {found : ℕ} → Inv (scan s.N 0 none found) s → found ≡ 0 → Clean s
clean {s} {found} I z = record {
  pages = λ p l. dk (G.pages p l);
  fields = λ x f d l. dk (G.blacks x f (is_3 x d) l);
  slots = λ w k l b. dk ((G.rows w l).slots (I.closed.rows w l).status k b);
  names = λ w k l. dk ((G.rows w l).names (I.closed.rows w l).status k);
}
  where
    G : Guarded (scan s.N 0 none found) s
    G = I.guarded tt

    is_3 : (x : ℕ) → 2 ≤ s.colour x → s.colour x ≡ 3
    is_3 x d = go (ℕ_discrete (s.colour x) 2)
      where
        go : Dec (s.colour x ≡ 2) → s.colour x ≡ 3
        go (yes e) = absurd (no-gray I z x e)
        go (no n) = omega (arith, I.tidy.colours x)

    dk : {v : ℕ} → Guard (scan s.N 0 none found) s v → 2 ≤ s.colour v
    dk =
        Guard-fold (scan s.N 0 none found) s (λ v. 2 ≤ s.colour v) (λ v h. h) (λ v h. rw h (none-dark I.closed))
        (λ x f h n u o b. absurd (n (is_3 x h)))

-- in stage 4 all statuses are 0, and nobody is answering
scan-zero : (σ : Stage) (st : ℕ) → IsScan σ → StatusFits σ st → Tracing σ × (st ≡ 0) × ¬ MayAnswer σ st
scan-zero rest st i h = absurd i
scan-zero ask1 st i h = absurd i
scan-zero ask2 st i h = absurd i
scan-zero (roots p) st i h = absurd i
scan-zero (scan p k q f) st i h = (tt, h, λ x. x)
scan-zero (sweep p) st i h = absurd i

-- a store that writes while tracing has grayed its old value
write-facts : (p : Plan) (σ : Stage) (c : ℕ → ℕ) (st v o : ℕ) → Tracing σ → StoreDark p writing σ c st v o
    → NotBare p × (2 ≤ c o)
write-facts bare σ c st v o t h = absurd (h.1 t)
write-facts trace σ c st v o t h = (tt, h.1 t)
write-facts full σ c st v o t h = (tt, h.1)

-- the new value is guarded: at status 0 that is asked of the job, else the store has grayed it
write_new : (p : Plan) (σ : Stage) (s : St) (st v o : ℕ) → StoreDark p writing σ s.colour st v o → (st ≡ 0 → Guard σ s v)
    → Guard σ s v
write_new bare σ s st v o h g = g h.0
write_new trace σ s st v o h g = g h.0
write_new full σ s st v o h g = dark h.2

-- while tracing the posted number is 0
posted_traces : (σ : Stage) → Tracing σ → posted σ ≡ 0
posted_traces rest t = absurd t
posted_traces ask1 t = absurd t
posted_traces ask2 t = absurd t
posted_traces (roots p) t = refl
posted_traces (scan p k h f) t = refl
posted_traces (sweep p) t = absurd t

-- a turn of writer w, under the invariant
module _ {σ : Stage} {s : St} (I : Inv σ s) (w : ℕ) (a : w < s.M) where
  -- the writer's job is no creation, and becomes none
  blacks_quiet : (c : ℕ → ℕ) (r : Row) → ((x : ℕ) → c x ≡ 3 → s.colour x ≡ 3) → job_tag (s.rows w).job ≢ 3
      → Blacks σ (record {
        N = s.N;
        g = s.g;
        M = s.M;
        colour = c;
        field = s.field;
        rows = upd s.rows w r;
        count = s.count;
      })
  blacks_quiet c r back t =
      blacks-row σ s I.blacks c w r a (λ x e. inl (back x e)) (λ x l e m. not_maker {j = (s.rows w).job} t m)

  -- in stage 4 what the writer's job carries is guarded
  name-Guard : {j : Job} → (s.rows w).job ≡ j → (k : ℕ) → IsScan σ → Guard σ s (job_name j k)
  name-Guard {j} e k i =
      let z = scan-zero σ (s.rows w).status i (I.closed.rows w a).status in
      subst (λ j. Guard σ s (job_name j k)) e (((I.guarded z.0).rows w a).names z.1 k)

-- a move of a writer keeps the invariant
inv-writing : {s : St} {σ : Stage} → Inv σ s → (m : Writing s σ) → Inv σ (written m)
inv-writing {s} {σ} I (load w k v a e d) = record {
  closed = closed-writing I.closed (load w k v a e d);
  tidy = tidy-load I.closed I.tidy w a k v e d;
  blacks = blacks_quiet I w a s.colour _ (λ x h. h) (omega (arith, ap job_tag e));
  guarded = λ t. guarded-load I.closed (I.guarded t) w a k v e d;
  ahead = I.ahead;
}
inv-writing {s} {σ} I (answer_post w a e d) = record {
  closed = closed-writing I.closed (answer_post w a e d);
  tidy = tidy_quiet I.closed I.tidy w a (posted σ) idle (omega arith);
  blacks = blacks_quiet I w a s.colour _ (λ x h. h) (omega (arith, ap job_tag e));
  guarded = λ t. absurd (omega (arith, posted_traces σ t));
  ahead = I.ahead;
}
inv-writing {s} {σ} I (answer-start w a e d z) = record {
  closed = closed-writing I.closed (answer-start w a e d z);
  tidy = tidy_quiet I.closed I.tidy w a (s.rows w).status (answering 0) (omega arith);
  blacks = blacks_quiet I w a s.colour _ (λ x h. h) (omega (arith, ap job_tag e));
  guarded = λ t. guarded-start I.closed (I.guarded t) w a;
  ahead = I.ahead;
}
inv-writing {s} {σ} I (answer-gray w k a e d) = record {
  closed = closed-writing I.closed (answer-gray w k a e d);
  tidy = tidy-answer I.closed I.tidy w a ((s.rows w).slots k) (k + 1) ((I.closed.rows w a).slots k d);
  blacks = blacks_quiet I w a _ _ (gray_back s.colour ((s.rows w).slots k)) (omega (arith, ap job_tag e));
  guarded = λ t. guarded-answer I.closed (I.guarded t) w a k e d;
  ahead = ahead-gray σ s I.closed I.tidy I.ahead ((s.rows w).slots k)
      (λ i. absurd ((scan-zero σ (s.rows w).status i (I.closed.rows w a).status).2 (fits_of I.closed w a e)));
}
inv-writing {s} {σ} I (answer-end w a e) = record {
  closed = closed-writing I.closed (answer-end w a e);
  tidy = tidy_quiet I.closed I.tidy w a 0 idle (omega arith);
  blacks = blacks_quiet I w a s.colour _ (λ x h. h) (omega (arith, ap job_tag e));
  guarded = λ t. guarded-end I.closed (I.guarded t) w a e;
  ahead = I.ahead;
}
inv-writing {s} {σ} I (store-start w r f q a e d) = record {
  closed = closed-writing I.closed (store-start w r f q a e d);
  tidy = tidy-store I.closed I.tidy w a r f q d.1 d.2;
  blacks = blacks_quiet I w a s.colour _ (λ x h. h) (omega (arith, ap job_tag e));
  guarded = λ t. guarded-store I.closed (I.guarded t) w a r f q d.1 d.2;
  ahead = I.ahead;
}
inv-writing {s} {σ} I (store-read w p c f v o a e d) = record {
  closed = closed-writing I.closed (store-read w p c f v o a e d);
  tidy = tidy-read I.closed I.tidy w a p c f v o e d;
  blacks = blacks_quiet I w a s.colour _ (λ x h. h) (omega (arith, ap job_tag e));
  guarded = λ t. guarded-read I.closed (I.guarded t) w a p c f v o e d;
  ahead = I.ahead;
}
inv-writing {s} {σ} I (store-old w p c f v o a e) = record {
  closed = closed-writing I.closed (store-old w p c f v o a e);
  tidy = tidy-old I.closed I.tidy w a p c f v o e;
  blacks = blacks_quiet I w a _ _ (gray_back s.colour o) (omega (arith, ap job_tag e));
  guarded = λ t. guarded-old I.closed (I.guarded t) w a p c f v o e;
  ahead = ahead-gray σ s I.closed I.tidy I.ahead o (name-Guard I w a e 2);
}
inv-writing {s} {σ} I (store-new w p c f v o a e) = record {
  closed = closed-writing I.closed (store-new w p c f v o a e);
  tidy = tidy-new I.closed I.tidy w a p c f v o e;
  blacks = blacks_quiet I w a _ _ (gray_back s.colour v) (omega (arith, ap job_tag e));
  guarded = λ t. guarded-new I.closed (I.guarded t) w a p c f v o e;
  ahead = ahead-gray σ s I.closed I.tidy I.ahead v (name-Guard I w a e 1);
}
inv-writing {s} {σ} I (store-write w p c f v o a e d) =
    let h = subst (λ j. JobDark σ s.colour (s.rows w).status j) e (I.tidy.jobs w a) in
    record {
      closed = closed-writing I.closed (store-write w p c f v o a e d);
      tidy = tidy_quiet (closed-write I.closed c f v (names_of I.closed w a e 1))
          (tidy-field I.closed I.tidy w a p c f v o e d.1) w a (s.rows w).status idle (omega arith);
      blacks = blacks_quiet I w a s.colour _ (λ x h. h) (omega (arith, ap job_tag e));
      guarded = λ t. let q = write-facts p σ s.colour (s.rows w).status v o t h in
          guarded-write I.closed (I.guarded t) w a p c f v o e q.0 q.1
          (write_new p σ s (s.rows w).status v o h
          (λ z. subst (λ j. Guard σ s (job_name j 1)) e (((I.guarded t).rows w a).names z 1)));
      ahead = I.ahead;
    }
inv-writing {s} {σ} I (take w k n a e l z) = record {
  closed = closed-writing I.closed (take w k n a e l z);
  tidy = tidy-take I.closed I.tidy w k n a l z;
  blacks = blacks-row σ s I.blacks (upd s.colour n 3) w _ a
      (upd_case (λ i y. y ≡ 3 → (s.colour i ≡ 3) ⊎ Makes (creating taken n k) i) s.colour n 3
      (λ _. inr (taken, k, refl, λ q. omega (arith, ap made_tag q))) (λ j m q. inl q))
      (λ x b q m. not_maker {j = (s.rows w).job} (omega (arith, ap job_tag e)) m);
  guarded = λ t. guarded-take I.closed (I.guarded t) t w k n a z;
  ahead = ahead-take σ s.colour n z I.ahead;
}
inv-writing {s} {σ} I (look w k n a e) = record {
  closed = closed-writing I.closed (look w k n a e);
  tidy = tidy-look I.closed I.tidy w a taken _ n k e;
  blacks = blacks-row σ s I.blacks s.colour w _ a (λ x q. inl q)
      (λ x b q m. let i : n ≡ x = ap job_at (sym e ∙ m.2) in (
        looked (s.rows w).status (ltb n (hand s.N σ)),
        k,
        ap (λ y. creating (looked (s.rows w).status (ltb n (hand s.N σ))) y k) i,
        looked-hand (s.rows w).status n (hand s.N σ) (omega arith),
      ));
  guarded = λ t. guarded-look I.closed (I.guarded t) w a taken _ n k e;
  ahead = I.ahead;
}
inv-writing {s} {σ} I (keep w k n a e) = record {
  closed = closed-writing I.closed (keep w k n a e);
  tidy = tidy-keep I.closed I.tidy w a kept n k e;
  blacks = blacks-row σ s I.blacks s.colour w _ a (λ x q. inl q)
      (λ x b q m. absurd (m.3 (made_kept m.0 (sym (ap job_made (sym e ∙ m.2))))));
  guarded = λ t. guarded-keep I.closed (I.guarded t) w a n k e;
  ahead = I.ahead;
}
inv-writing {s} {σ} I (white w k n a e) = record {
  closed = closed-writing I.closed (white w k n a e);
  tidy = tidy-white I.closed I.tidy w k n a e;
  blacks = blacks-row σ s I.blacks (upd s.colour n 1) w _ a
      (upd_case (λ i y. y ≡ 3 → (s.colour i ≡ 3) ⊎ Makes idle i) s.colour n 1 (λ h. absurd (omega arith)) (λ j m q. inl q))
      (λ x b q m. let i : n ≡ x = ap job_at (sym e ∙ m.2) in absurd (omega (arith, rw (← i, upd_same) at q)));
  guarded = λ t. guarded_whitened σ s t I.closed I.tidy (I.guarded t) w k n a e (fits_of I.closed w a e).1
      ((subst (λ j. JobDark σ s.colour (s.rows w).status j) e (I.tidy.jobs w a)).1 t);
  ahead = ahead-white σ s.colour (s.rows w).status n (fits_of I.closed w a e).1 I.ahead;
}

-- a move of the collector keeps the invariant
inv-collecting : {s : St} {σ : Stage} → Inv σ s → (m : Collecting s σ) → Inv (next-stage m) (collected m)
inv-collecting {s} I opening = record {
  closed = closed-collecting I.closed opening tt;
  tidy = tidy-same I.tidy ask1 1 (λ t. absurd t) (λ x h. h) (λ q. absurd q);
  blacks = λ x l e. I.blacks x (omega arith) e;
  guarded = λ t. absurd t;
  ahead = tt;
}
inv-collecting {s} I (asked1 al) = record {
  closed = closed-collecting I.closed (asked1 al) tt;
  tidy = tidy-same I.tidy ask2 (s.count + 1) (λ t. absurd t) (λ x h. h) (λ q w l z. omega (arith, al w l));
  blacks = λ x l e. I.blacks x (omega arith) e;
  guarded = λ t. absurd t;
  ahead = tt;
}
inv-collecting {s} I (asked2 al) = record {
  closed = closed-collecting I.closed (asked2 al) tt;
  tidy = tidy-asked2 I.tidy al;
  blacks = λ x l. absurd (omega arith);
  guarded = λ t. guarded-asked2 I.closed I.tidy I.blacks al;
  ahead = tt;
}
inv-collecting {s} I (root p l) = record {
  closed = closed-collecting I.closed (root p l) tt;
  tidy = tidy-gray I.tidy (roots (p + 1)) p (s.count + 1) (λ t. t) (λ i. omega arith) (λ i. omega arith) (λ q. q);
  blacks = λ x l. absurd (omega arith);
  guarded = λ t. guarded-root I.closed (I.guarded tt) l;
  ahead = tt;
}
inv-collecting {s} I (rooted al) = record {
  closed = closed-collecting I.closed (rooted al) tt;
  tidy = tidy-same I.tidy (scan 0 0 none 0) (s.count + 1) (λ t. t) (λ x h. h) (λ q. absurd q);
  blacks = λ x l. absurd (omega arith);
  guarded = λ t. guarded-rooted (I.guarded tt);
  ahead = (refl, λ x e. (x, omega arith, e));
}
inv-collecting {s} I (skip p f l n) = record {
  closed = closed-collecting I.closed (skip p f l n) tt;
  tidy = tidy-same I.tidy (scan (p + 1) 0 none f) (s.count + 1) (λ t. t) (λ x h. h) (λ q. absurd q);
  blacks = λ x l. absurd (omega arith);
  guarded = λ t. guarded-skip (I.guarded tt) (p + 1) f;
  ahead = ahead-skip s p f n I.ahead;
}
inv-collecting {s} I (opened p f l e) = record {
  closed = closed-collecting I.closed (opened p f l e) tt;
  tidy = tidy-same I.tidy (scan p 1 none 1) (s.count + 1) (λ t. t) (λ x h. h) (λ q. absurd q);
  blacks = λ x l. absurd (omega arith);
  guarded = λ t. guarded-opened (I.guarded tt);
  ahead = tt;
}
inv-collecting {s} I again = record {
  closed = closed-collecting I.closed again tt;
  tidy = tidy-same I.tidy (scan 0 0 none 0) (s.count + 1) (λ t. t) (λ x h. h) (λ q. absurd q);
  blacks = λ x l. absurd (omega arith);
  guarded = λ t. guarded-skip (I.guarded tt) 0 0;
  ahead = (refl, λ x e. (x, omega arith, e));
}
inv-collecting {s} I scanned = record {
  closed = closed-collecting I.closed scanned (clean I refl);
  tidy = tidy-same I.tidy (sweep 0) (s.count + 1) (λ t. absurd t) (λ x h. omega arith) (λ q. absurd q);
  blacks = λ x l. absurd (omega arith);
  guarded = λ t. absurd t;
  ahead = tt;
}
inv-collecting {s} I (hold p k f l) = record {
  closed = closed-collecting I.closed (hold p k f l) tt;
  tidy = tidy-same I.tidy (scan p (suc (suc (k + k))) (s.field p k) f) (s.count + 1) (λ t. t) (λ x h. h) (λ q. absurd q);
  blacks = λ x l. absurd (omega arith);
  guarded = λ t. guarded-hold k I.closed (I.guarded tt);
  ahead = ahead-part p (k + k) (suc (k + k)) none (s.field p k) f s.colour I.ahead;
}
inv-collecting {s} I (gray-hold p k h f l) = record {
  closed = closed-collecting I.closed (gray-hold p k h f l) tt;
  tidy = tidy-gray I.tidy (scan p (suc (suc (suc (k + k)))) none f) h (s.count + 1) (λ t. t) (λ i. omega arith)
      (λ i. omega arith) (λ q. q);
  blacks = λ x l. absurd (omega arith);
  guarded = λ t. guarded-gray-hold k I.closed.open.1 (I.guarded tt);
  ahead = ahead-part p (suc (k + k)) (suc (suc (k + k))) h none f _ (ahead_any p (suc (k + k)) h f s.colour _ I.ahead);
}
inv-collecting {s} I (done p f l) = record {
  closed = closed-collecting I.closed (done p f l) tt;
  tidy = tidy-done I.tidy I.closed.open.0;
  blacks = λ x l. absurd (omega arith);
  guarded = λ t. guarded-done (I.guarded tt);
  ahead = ahead-done p f s.colour _ I.ahead;
}
inv-collecting {s} I (swept p l) = record {
  closed = closed-collecting I.closed (swept p l) tt;
  tidy = tidy-swept I.closed I.tidy;
  blacks =
      λ x b. upd_case (λ i y. i < p + 1 → y ≡ 3 → (w : ℕ) × (w < s.M) × Makes (s.rows w).job i) s.colour p _
      (λ _ e. absurd (omega (arith, swept_3 (s.colour p)))) (λ i n b e. I.blacks i (omega arith) e) x b;
  guarded = λ t. absurd t;
  ahead = tt;
}
inv-collecting {s} I closing = record {
  closed = closed-collecting I.closed closing tt;
  tidy = tidy-same I.tidy rest (s.count + 1) (λ t. absurd t) (λ x h. closing_down I.closed x h) (λ q. absurd q);
  blacks = λ x l e. I.blacks x (omega arith) e;
  guarded = λ t. absurd t;
  ahead = tt;
}

-- every move keeps the invariant
pub inv : {s : St} {σ : Stage} → Inv σ s → (m : Move s σ) → Inv (stage' m) (after m)
inv I (by-writer m) = inv-writing I m
inv I (by-collector m) = inv-collecting I m
