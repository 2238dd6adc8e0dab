-- A cycle takes at most C working turns: every move keeps the bound on the count.
use Rattle.std.specs.Prelude.{◌≡◌, refl, ℕ, zero, suc, ◌+◌, ◌≤◌, ◌<◌}
use Rattle.std.proofs.Common.{sym, subst, arith, mul-le-mul_right}
use Rattle.std.proofs.Math.Decide.{ℕ_discrete}
use Rattle.moves.specs.Base.{upd}
use Rattle.moves.proofs.Base.{upd_same, upd_case}
use Rattle.moves.specs.Machine.{Stage, rest, ask1, ask2, roots, scan, sweep, St, gray}
use Rattle.moves.specs.Writing.{Writing, load, answer_post, answer-start, answer-gray, answer-end, store-start}
use Rattle.moves.specs.Writing.{store-read, store-old, store-new, store-write, take, look, keep, white, written}
use Rattle.moves.specs.Collecting.{Collecting, opening, asked1, asked2, root, rooted, skip, opened, again, scanned}
use Rattle.moves.specs.Collecting.{hold, gray-hold, done, swept, closing, next-stage, collected}
use Rattle.moves.specs.Moves.{Move, by-writer, by-collector, stage', after}
use Rattle.moves.proofs.Moves.{writing-leaves}
use Rattle.moves.proofs.Colours.{gray_3}
use Rattle.moves.specs.Closure.{MayWhiten}
use Rattle.moves.proofs.Closure.{fits_of}
use Rattle.moves.specs.Scan.{IsScan}
use Rattle.moves.specs.Invariant.{Inv}
use Rattle.moves.specs.Run.{IsStart, Run, start, then}
use Rattle.moves.proofs.Run.{run-inv}
use Rattle.moves.specs.Bound.{c_max, is_black, black_count, Bound, BoundIn, Placed, in_cycle}

-- is_black is at most 1
is_black-small : (x : ℕ) → is_black x ≤ 1
is_black-small zero = omega arith
is_black-small (suc zero) = omega arith
is_black-small (suc (suc zero)) = omega arith
is_black-small (suc (suc (suc n))) = omega arith

-- if black stays black, it counts no less
is_black_mono : (x y : ℕ) → x ≤ 3 → (x ≡ 3 → y ≡ 3) → is_black x ≤ is_black y
is_black_mono zero y b h = omega arith
is_black_mono (suc zero) y b h = omega arith
is_black_mono (suc (suc zero)) y b h = omega arith
is_black_mono (suc (suc (suc zero))) y b h = rw (h refl) (omega arith)
is_black_mono (suc (suc (suc (suc n)))) y b h = absurd (omega arith)

-- at most n cells are black
black_count-le : (c : ℕ → ℕ) (n : ℕ) → black_count c n ≤ n
unfolding black_count
black_count-le c zero = omega arith
black_count-le c (suc n) = omega (arith, black_count-le c n, is_black-small (c n))

-- if black cells stay black there are no fewer
black_count_mono : (c d : ℕ → ℕ) → ((i : ℕ) → c i ≤ 3) → ((i : ℕ) → c i ≡ 3 → d i ≡ 3) → (n : ℕ)
    → black_count c n ≤ black_count d n
unfolding black_count
black_count_mono c d b h zero = omega arith
black_count_mono c d b h (suc n) = omega (arith, black_count_mono c d b h n, is_black_mono (c n) (d n) (b n) (h n))

-- where a cell is gray, not all are black
black_count_lt : (c : ℕ → ℕ) (p : ℕ) → c p ≡ 2 → (n : ℕ) → p < n → black_count c n + 1 ≤ n
unfolding black_count
black_count_lt c p e zero l = absurd (omega arith)
black_count_lt c p e (suc n) l = go (black_count_lt c p e n) (ℕ_discrete p n)
  where
    go : (p < n → black_count c n + 1 ≤ n) → Dec (p ≡ n) → black_count c (suc n) + 1 ≤ suc n
    go i (yes q) = rw (← q) (rw e (omega (arith, black_count-le c p)))
    go i (no q) = omega (arith, i (omega arith), is_black-small (c n))

-- a gray cell becomes black: there is one more
black_count-more : (c d : ℕ → ℕ) (p : ℕ) → ((i : ℕ) → c i ≤ 3) → ((i : ℕ) → c i ≡ 3 → d i ≡ 3) → c p ≡ 2 → d p ≡ 3 → (n : ℕ)
    → p < n → black_count c n + 1 ≤ black_count d n
unfolding black_count
black_count-more c d p b h e e' zero l = absurd (omega arith)
black_count-more c d p b h e e' (suc n) l = go (black_count-more c d p b h e e' n) (ℕ_discrete p n)
  where
    go : (p < n → black_count c n + 1 ≤ black_count d n) → Dec (p ≡ n) → black_count c (suc n) + 1 ≤ black_count d (suc n)
    go i (yes q) = rw (← q) (rw (e, e') (omega (arith, black_count_mono c d b h p)))
    go i (no q) = omega (arith, i (omega arith), is_black_mono (c n) (d n) (b n) (h n))

-- more black cells in stage 4, the same count
bound-K : (σ : Stage) (N g K K' c : ℕ) → (IsScan σ → K ≤ K') → Bound σ N g K c → Bound σ N g K' c
bound-K rest N g K K' c h b = b
bound-K ask1 N g K K' c h b = b
bound-K ask2 N g K K' c h b = b
bound-K (roots p) N g K K' c h b = b
bound-K (scan p zero q f) N g K K' c h b = let l = h tt in (b.0, omega (arith, b.1), omega (arith, b.2))
bound-K (scan p (suc k) q f) N g K K' c h b = let l = h tt in (b.0, omega (arith, b.1), b.2, omega (arith, b.3))
bound-K (sweep p) N g K K' c h b = b

-- graying makes no black cell fewer
bound-gray : {σ : Stage} {s : St} → Inv σ s → BoundIn σ s → (v : ℕ) → BoundIn σ (gray s v)
bound-gray {σ} {s} I b v =
    bound-K σ s.N s.g _ _ s.count (λ _. black_count_mono s.colour _ I.tidy.colours (gray_3 s.colour v) s.N)
    b

-- no creation decides white in stage 4
no-whiten : (σ : Stage) (st n : ℕ) → IsScan σ → MayWhiten σ st n → ⊥
no-whiten rest st n i m = i
no-whiten ask1 st n i m = i
no-whiten ask2 st n i m = i
no-whiten (roots p) st n i m = i
no-whiten (scan p k h f) st n i m = m
no-whiten (sweep p) st n i m = i

-- a move of a writer keeps the bound
bound-writing : {s : St} {σ : Stage} → Inv σ s → BoundIn σ s → (m : Writing s σ) → BoundIn σ (written m)
bound-writing I b (load w k v a e d) = b
bound-writing I b (answer_post w a e d) = b
bound-writing I b (answer-start w a e d z) = b
bound-writing I b (answer-gray w k a e d) = bound-gray I b _
bound-writing I b (answer-end w a e) = b
bound-writing I b (store-start w r f q a e d) = b
bound-writing I b (store-read w p c f v o a e d) = b
bound-writing I b (store-old w p c f v o a e) = bound-gray I b o
bound-writing I b (store-new w p c f v o a e) = bound-gray I b v
bound-writing I b (store-write w p c f v o a e d) = b
bound-writing {s} {σ} I b (take w k n a e l z) = bound-K σ s.N s.g _ _ s.count
    (λ _. black_count_mono s.colour _ I.tidy.colours
    (upd_case (λ i x. s.colour i ≡ 3 → x ≡ 3) s.colour n 3 (λ _. refl) (λ j m h. h)) s.N) b
bound-writing I b (look w k n a e) = b
bound-writing I b (keep w k n a e) = b
bound-writing {s} {σ} I b (white w k n a e) =
    bound-K σ s.N s.g _ _ s.count (λ i. absurd (no-whiten σ (s.rows w).status n i (fits_of I.closed w a e).1)) b

-- a move of the collector keeps the bound
bound-collecting : {s : St} {σ : Stage} → Inv σ s → BoundIn σ s → (m : Collecting s σ) → BoundIn (next-stage m) (collected m)
bound-collecting I b opening = refl
bound-collecting I b (asked1 a) = omega arith
bound-collecting I b (asked2 a) = omega arith
bound-collecting I b (root p l) = omega arith
bound-collecting I b (rooted a) = (0, omega arith, omega arith)
bound-collecting I b (skip p f l n) = (b.0, b.1, omega (arith, b.2))
bound-collecting I b (opened p f l e) = (b.0, omega (arith, b.1), refl, omega (arith, b.2))
bound-collecting I b again = (b.0 + 1, omega (arith, b.1), omega (arith, b.2))
bound-collecting {s} I b scanned =
    let l : b.0 ≤ s.N = omega (arith, b.1, black_count-le s.colour s.N) in
    omega (arith, b.2, mul-le-mul_right (s.N + 1) l, black_count-le s.colour s.N)
bound-collecting I b (hold p k f l) = (b.0, b.1, b.2, omega (arith, b.3))
bound-collecting {s} I b (gray-hold p k h f l) = let c = bound-gray I b h in (c.0, c.1, c.2, omega (arith, c.3))
bound-collecting {s} I b (done p f l) =
    let K = black_count-more s.colour (upd s.colour p 3) p I.tidy.colours
    (upd_case (λ i x. s.colour i ≡ 3 → x ≡ 3) s.colour p 3 (λ _. refl) (λ j m h. h)) I.closed.open.0
    (upd_same s.colour p 3) s.N l in
    (b.0, omega (arith, b.1, b.2), omega (arith, b.3))
bound-collecting I b (swept p l) = omega arith
bound-collecting I b closing = omega arith

-- every move keeps the bound
pub bound : {s : St} {σ : Stage} → Inv σ s → BoundIn σ s → (m : Move s σ) → BoundIn (stage' m) (after m)
bound I b (by-writer m) = bound-writing I b m
bound I b (by-collector m) = bound-collecting I b m

-- the bound holds after every run
pub run-bound : {s₀ : St} → IsStart s₀ → s₀.count ≡ 0 → {σ : Stage} {s : St} → Run s₀ σ s → BoundIn σ s
run-bound S z start = omega arith
run-bound S z (then r m) = bound (run-inv S r) (run-bound S z r) m

-- a move of the collector keeps the place and the part in range
placed-collecting : {s : St} {σ : Stage} → Placed σ s.N s.g → (m : Collecting s σ)
    → Placed (next-stage m) (collected m).N (collected m).g
placed-collecting h opening = tt
placed-collecting h (asked1 a) = tt
placed-collecting h (asked2 a) = omega arith
placed-collecting h (root p l) = omega arith
placed-collecting h (rooted a) = omega arith
placed-collecting h (skip p f l n) = omega arith
placed-collecting h (opened p f l e) = (l, omega arith)
placed-collecting h again = omega arith
placed-collecting h scanned = omega arith
placed-collecting h (hold p k f l) = (h.0, omega arith)
placed-collecting h (gray-hold p k q f l) = (h.0, omega arith)
placed-collecting h (done p f l) = omega arith
placed-collecting h (swept p l) = omega arith
placed-collecting h closing = tt

-- every move keeps them in range
pub placed : {s : St} {σ : Stage} → Placed σ s.N s.g → (m : Move s σ) → Placed (stage' m) (after m).N (after m).g
placed {s} {σ} h (by-writer m) =
    subst (λ g. Placed σ (written m).N g) (sym (writing-leaves m).1)
    (subst (λ n. Placed σ n s.g) (sym (writing-leaves m).0) h)
placed h (by-collector m) = placed-collecting h m

-- they are in range after every run
pub run-placed : {s₀ : St} {σ : Stage} {s : St} → Run s₀ σ s → Placed σ s.N s.g
run-placed start = tt
run-placed (then r m) = placed (run-placed r) m

-- in a cycle that is not over the count has not reached C
pub in_cycle-C : {s : St} (σ : Stage) → Inv σ s → BoundIn σ s → Placed σ s.N s.g
    → in_cycle σ s.count < c_max s.N s.g
in_cycle-C rest I b h = omega arith
in_cycle-C ask1 I b h = omega arith
in_cycle-C ask2 I b h = omega arith
in_cycle-C (roots p) I b h = omega arith
in_cycle-C {s} (scan p zero q f) I b h =
    let l : b.0 ≤ s.N = omega (arith, b.1, black_count-le s.colour s.N) in
    omega (arith, b.2, mul-le-mul_right (s.N + 1) l, black_count-le s.colour s.N)
in_cycle-C {s} (scan p (suc k) q f) I b h =
    let L = black_count_lt s.colour p I.closed.open.0 s.N h.0 in
    let l : b.0 ≤ s.N = omega (arith, b.1, L) in omega (arith, b.3, h.0, h.1, mul-le-mul_right (s.N + 1) l, L)
in_cycle-C (sweep p) I b h = omega arith

-- the count is at most C
pub bound-C : {s : St} (σ : Stage) → Inv σ s → BoundIn σ s → Placed σ s.N s.g → s.count ≤ c_max s.N s.g
bound-C rest I b h = b
bound-C ask1 I b h = omega (arith, in_cycle-C ask1 I b h)
bound-C ask2 I b h = omega (arith, in_cycle-C ask2 I b h)
bound-C (roots p) I b h = omega (arith, in_cycle-C (roots p) I b h)
bound-C (scan p k q f) I b h = omega (arith, in_cycle-C (scan p k q f) I b h)
bound-C (sweep p) I b h = omega (arith, in_cycle-C (sweep p) I b h)

-- Demand 3's second part: the count never passes C; and the count is the number of working turns since the opening
-- (count-after), so no cycle takes more than C.
pub cycle : {s₀ : St} → IsStart s₀ → s₀.count ≡ 0 → {σ : Stage} {s : St} → Run s₀ σ s → s.count ≤ c_max s.N s.g
cycle S z {σ} r = bound-C σ (run-inv S r) (run-bound S z r) (run-placed r)
