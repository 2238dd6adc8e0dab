-- What is reached is never free, and a cell in use that is not reached is never reached again: garbage stays garbage.
use Rattle.std.specs.Prelude.{◌≡◌, refl, ◌≢◌, ◌⊎◌, ℕ, ◌<◌}
use Rattle.std.proofs.Common.{sym, ◌∙◌, ap, inl, inr, arith}
use Rattle.moves.proofs.Base.{upd_case, upd2_case}
use Rattle.moves.specs.Machine.{Stage, graying_old, writing, taken, Job, creating, Row, St, none, tracing, set_colour}
use Rattle.moves.specs.Machine.{set_field, clear, set_row, set_job}
use Rattle.moves.specs.Writing.{Known, copy, drop, read, plan_of, first_phase, after_old, Writing, load, answer_post}
use Rattle.moves.specs.Writing.{answer-start, answer-gray, answer-end, store-start, store-read, store-old, store-new}
use Rattle.moves.specs.Writing.{store-write, take, look, keep, white, written}
use Rattle.moves.specs.Collecting.{Collecting, opening, asked1, asked2, root, rooted, skip, opened, again, scanned}
use Rattle.moves.specs.Collecting.{hold, gray-hold, done, swept, closing, collected}
use Rattle.moves.specs.Moves.{Move, by-writer, by-collector, after}
use Rattle.moves.specs.Rows.{job_name}
use Rattle.moves.proofs.Rows.{three-names, slots_in_lem}
use Rattle.moves.specs.Closure.{Live, Closed}
use Rattle.moves.proofs.Closure.{live_used, none_live}
use Rattle.moves.specs.Invariant.{Inv}
use Rattle.moves.specs.Run.{IsStart, Run}
use Rattle.moves.proofs.Run.{run-inv}
use Rattle.moves.specs.Reach.{nil, page, slot, name, step, Reach}

-- what is reached is live
reach_live : {σ : Stage} {s : St} {v : ℕ} → Closed σ s → Reach s v → Live σ s.colour v
reach_live C (nil e) = rw e (none_live C)
reach_live C (page l) = C.pages _ l
reach_live C (slot w k l b e) = rw e ((C.rows w l).slots k b)
reach_live C (name w k l e) = rw e ((C.rows w l).names k)
reach_live C (step x f h l e) = rw e (C.fields x f (reach_live C h) l)

-- under the invariant what is reached is not free
pub safe : {σ : Stage} {s : St} {v : ℕ} → Inv σ s → Reach s v → s.colour v ≢ 0
safe {σ} {s} {v} I h e = omega (arith, live_used σ s.colour v (reach_live I.closed h))

-- Demand 3's first part: after any moves from a fresh store no cell that is reached is free. So no creation takes one.
pub safety : {s₀ : St} → IsStart s₀ → {σ : Stage} {s : St} → Run s₀ σ s → (v : ℕ) → Reach s v → s.colour v ≢ 0
safety S r v h = safe (run-inv S r) h

-- one row is put back that names only what was reached
reach-row : (s : St) (w : ℕ) (r : Row) → ((k : ℕ) → k < 8 → Reach s (r.slots k)) → ((k : ℕ) → Reach s (job_name r.job k))
    → {v : ℕ} → Reach (set_row s w r) v → Reach s v
reach-row s w r a b (nil e) = nil e
reach-row s w r a b (page l) = page l
reach-row s w r a b (slot u k l d e) =
    rw e (upd_case (λ i q. i < s.M → Reach s (q.slots k)) s.rows w r (λ _. a k d) (λ i n l. slot i k l d refl) u l)
reach-row s w r a b (name u k l e) =
    rw e (upd_case (λ i q. i < s.M → Reach s (job_name q.job k)) s.rows w r (λ _. b k) (λ i n l. name i k l refl) u l)
reach-row s w r a b (step x f h l e) = step x f (reach-row s w r a b h) l e

-- a field is written with a number that was reached
reach-write : (s : St) (c f v : ℕ) → Reach s v → {u : ℕ} → Reach (set_field s c f v) u → Reach s u
reach-write s c f v a (nil e) = nil e
reach-write s c f v a (page l) = page l
reach-write s c f v a (slot u k l d e) = slot u k l d e
reach-write s c f v a (name u k l e) = name u k l e
reach-write s c f v a (step x k h l e) =
    rw e
    (upd2_case (λ x k y. Reach s x → k < 4 → Reach s y) s.field c f v (λ _ _. a) (λ x k h l. step x k h l refl) x k
    (reach-write s c f v a h) l)

-- a free cell is taken: it is reached now, and else only what was
reach-take : (s : St) (w n k : ℕ) → w < s.M → {v : ℕ} → Reach (set_job (clear (set_colour s n 3) n) w (creating taken n k)) v
    → (v ≡ n) ⊎ Reach s v
reach-take s w n k a (nil e) = inr (nil e)
reach-take s w n k a (page l) = inr (page l)
reach-take s w n k a (slot u j l d e) =
    inr
    (rw e (upd_case (λ i q. i < s.M → Reach s (q.slots j)) s.rows w _ (λ _. slot w j a d refl)
    (λ i m l. slot i j l d refl) u l))
reach-take s w n k a (name u j l e) =
    rw e
    (upd_case (λ i q. i < s.M → (job_name q.job j ≡ n) ⊎ Reach s (job_name q.job j)) s.rows w _ (λ _. inl refl)
    (λ i m l. inr (name i j l refl)) u l)
reach-take s w n k a (step {v = t} x f h l e) =
    inr
    (rw e (upd_case (λ y r. (y ≡ n) ⊎ Reach s y → Reach s (r f)) s.field n (λ f. none) (λ _. nil refl) (λ y m o. go y m o) x
    (reach-take s w n k a h)))
  where
    go : (y : ℕ) → y ≢ n → (y ≡ n) ⊎ Reach s y → Reach s (s.field y f)
    go y m (inl q) = absurd (m q)
    go y m (inr q) = step y f q l refl

-- what a turn may put into a slot is reached
reach_known : (s : St) (w v : ℕ) → w < s.M → Known s (s.rows w) v → Reach s v
reach_known s w v a (Known.page l) = page l
reach_known s w v a (copy k b) = slot w k a b refl
reach_known s w v a drop = nil refl
reach_known s w v a (read k f b l) = step _ f (slot w k a b refl) l refl

-- what a job that a guard tells of carries is reached
pub reach-job : (s : St) (w : ℕ) → w < s.M → {j : Job} → (s.rows w).job ≡ j → (k : ℕ) → Reach s (job_name j k)
reach-job s w a e k = name w k a (ap (λ j. job_name j k) (sym e))

-- what a slot names is reached
slots-reach : (s : St) (w : ℕ) → w < s.M → (k : ℕ) → k < 8 → Reach s ((s.rows w).slots k)
slots-reach s w a k b = slot w k a b refl

-- a move of a writer reaches only what was reached, and the free cell that it takes
garbage-writing : {s : St} {σ : Stage} (m : Writing s σ) {v : ℕ} → Reach (written m) v → s.colour v ≢ 0 → Reach s v
garbage-writing {s} (load w k v a e d) h c =
    reach-row s w _ (slots_in_lem (Reach s) (s.rows w).slots k v (reach_known s w v a d) (slots-reach s w a))
    (λ k. name w k a refl) h
garbage-writing {s} (answer_post w a e d) h c = reach-row s w _ (slots-reach s w a) (λ k. nil refl) h
garbage-writing {s} (answer-start w a e d z) h c = reach-row s w _ (slots-reach s w a) (λ k. nil refl) h
garbage-writing {s} (answer-gray w k a e d) h c = reach-row s w _ (slots-reach s w a) (λ k. nil refl) h
garbage-writing {s} (answer-end w a e) h c = reach-row s w _ (slots-reach s w a) (λ k. nil refl) h
garbage-writing {s} {σ} (store-start w r f q a e d) h c = reach-row s w _ (slots-reach s w a)
    (three-names (Reach s) (plan_of (s.rows w).status (tracing σ))
    (first_phase (plan_of (s.rows w).status (tracing σ))) _ f _ none (slots-reach s w a r d.1)
    (slots-reach s w a q d.2) (nil refl)) h
garbage-writing {s} (store-read w p x f v o a e d) h c =
    let n = reach-job s w a e in
    reach-row s w _ (slots-reach s w a) (three-names (Reach s) p graying_old x f v _ (n 0) (n 1) (step x f (n 0) d refl)) h
garbage-writing {s} (store-old w p x f v o a e) h c =
    let n = reach-job s w a e in
    reach-row s w _ (slots-reach s w a) (three-names (Reach s) p (after_old p) x f v o (n 0) (n 1) (n 2)) h
garbage-writing {s} (store-new w p x f v o a e) h c =
    let n = reach-job s w a e in
    reach-row s w _ (slots-reach s w a) (three-names (Reach s) p writing x f v o (n 0) (n 1) (n 2)) h
garbage-writing {s} (store-write w p x f v o a e d) h c =
    reach-write s x f v (reach-job s w a e 1)
    (reach-row (set_field s x f v) w _ (slots-reach (set_field s x f v) w a) (λ k. nil refl) h)
garbage-writing {s} (take w k n a e l z) {v} h c = go (reach-take s w n k a h)
  where
    go : (v ≡ n) ⊎ Reach s v → Reach s v
    go (inl q) = absurd (c (ap s.colour q ∙ z))
    go (inr q) = q
garbage-writing {s} (look w k n a e) h c = reach-row s w _ (slots-reach s w a) (λ k. reach-job s w a e 0) h
garbage-writing {s} (keep w k n a e) h c =
    reach-row s w _ (slots_in_lem (Reach s) (s.rows w).slots k n (reach-job s w a e 0) (slots-reach s w a)) (λ k. nil refl) h
garbage-writing {s} (white w k n a e) h c =
    reach-row s w _ (slots_in_lem (Reach s) (s.rows w).slots k n (reach-job s w a e 0) (slots-reach s w a)) (λ k. nil refl) h

-- a move of the collector changes nothing of what is reached
reach-collecting : {s : St} {σ : Stage} (m : Collecting s σ) {v : ℕ} → Reach (collected m) v → Reach s v
reach-collecting opening r = r
reach-collecting (asked1 a) r = r
reach-collecting (asked2 a) r = r
reach-collecting (root p l) r = r
reach-collecting (rooted a) r = r
reach-collecting (skip p f l n) r = r
reach-collecting (opened p f l e) r = r
reach-collecting again r = r
reach-collecting scanned r = r
reach-collecting (hold p k f l) r = r
reach-collecting (gray-hold p k h f l) r = r
reach-collecting (done p f l) r = r
reach-collecting (swept p l) r = r
reach-collecting closing r = r

-- Garbage stays garbage: a cell in use that is reached after a move was reached before it.
pub garbage : {s : St} {σ : Stage} (m : Move s σ) {v : ℕ} → Reach (after m) v → s.colour v ≢ 0 → Reach s v
garbage (by-writer m) h c = garbage-writing m h c
garbage (by-collector m) h c = reach-collecting m h
