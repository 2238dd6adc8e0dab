-- Tidiness under the collector's moves.
use Rattle.std.specs.Prelude.{◌≡◌, refl, ◌≢◌, ℕ, ◌+◌, ◌≤◌, ◌<◌}
use Rattle.std.proofs.Common.{arith}
use Rattle.moves.specs.Base.{upd}
use Rattle.moves.proofs.Base.{upd_case}
use Rattle.moves.specs.Machine.{Stage, ask2, roots, scan, sweep, St, none, set_colour, gray, set_count, tick, AllStatus}
use Rattle.moves.specs.Collecting.{swept_to}
use Rattle.moves.proofs.Colours.{shade-out, gray_up, gray_3, gray-bound, swept_iff, swept_3}
use Rattle.moves.specs.Closure.{floor, Live, Closed}
use Rattle.moves.specs.Protection.{Tracing}
use Rattle.moves.specs.Tidiness.{JobDark, IsAsk2, Tidy}
use Rattle.moves.proofs.Tidiness.{dark-map, dark-zero, dark-two}

-- stage, colours and count change: the jobs fit, and no cell becomes live
tidy-stage : {σ : Stage} {s : St} → Tidy σ s → (σ' : Stage) (c : ℕ → ℕ) (k : ℕ)
    → ((w : ℕ) → w < s.M → JobDark σ' c (s.rows w).status (s.rows w).job)
    → ((x : ℕ) → Live σ' c x → Live σ s.colour x) → ((i : ℕ) → c i ≤ 3)
    → (IsAsk2 σ' → (w : ℕ) → w < s.M → (s.rows w).status ≢ 2)
    → Tidy σ' (record { N = s.N; g = s.g; M = s.M; colour = c; field = s.field; rows = s.rows; count = k })
tidy-stage T σ' c k jd down bd st = record {
  jobs = jd;
  blank = T.blank;
  colours = bd;
  fresh =
      λ w n k m l e. let F = T.fresh w n k m l e in
      record {
        page = F.page;
        small = F.small;
        slot = F.slot;
        job = F.job;
        own = F.own;
        field = λ x f h b. F.field x f (down x h) b;
      };
  stale = λ q w x f l z b h. absurd (st q w l z);
}

-- the stage alone changes, to one that traces only if this one does
pub tidy-same : {σ : Stage} {s : St} → Tidy σ s → (σ' : Stage) (k : ℕ) → (Tracing σ' → Tracing σ)
    → ((x : ℕ) → Live σ' s.colour x → Live σ s.colour x)
    → (IsAsk2 σ' → (w : ℕ) → w < s.M → (s.rows w).status ≢ 2) → Tidy σ' (set_count s k)
tidy-same {σ} {s} T σ' k t d st =
    tidy-stage T σ' s.colour k
    (λ w l. dark-map σ σ' s.colour s.colour (s.rows w).status (s.rows w).job t (λ _ h. h) (λ _ h. h) (T.jobs w l)) d
    T.colours st

-- the second handshake's end: tracing begins, and all writers have status 2
pub tidy-asked2 : {s : St} → Tidy ask2 s → AllStatus s 2 → Tidy (roots 0) (tick s)
tidy-asked2 {s} T al =
    tidy-stage T (roots 0) s.colour (s.count + 1)
    (λ w l. dark-two ask2 (roots 0) s.colour (s.rows w).status (s.rows w).job (al w l) (T.jobs w l)) (λ x h. h)
    T.colours (λ q. absurd q)

-- the collector grays a page or the hold
pub tidy-gray : {σ : Stage} {s : St} → Tidy σ s → (σ' : Stage) (v k : ℕ) → (Tracing σ' → Tracing σ) → ((i : ℕ) → floor σ i ≤ 1)
    → ((i : ℕ) → 1 ≤ floor σ' i) → (IsAsk2 σ' → ⊥) → Tidy σ' (set_count (gray s v) k)
tidy-gray {σ} {s} T σ' v k t fl fl' na = tidy-stage T σ' _ k
    (λ w l. dark-map σ σ' s.colour _ (s.rows w).status (s.rows w).job t (λ _. gray_up s.colour v _)
    (λ _. gray_3 s.colour v _) (T.jobs w l))
    (upd_case (λ i x. floor σ' i ≤ x → Live σ s.colour i) s.colour v _
    (λ h. omega (arith, shade-out (s.colour v) (omega (arith, fl' v)), fl v)) (λ i ne h. omega (arith, fl i, fl' i)))
    (gray-bound s.colour v T.colours) (λ q. absurd (na q))

-- part 9: the open cell becomes black
pub tidy-done : {p f : ℕ} {s : St} → Tidy (scan p 9 none f) s → s.colour p ≡ 2
    → Tidy (scan (p + 1) 0 none f) (tick (set_colour s p 3))
tidy-done {p} {f} {s} T e = tidy-stage T (scan (p + 1) 0 none f) (upd s.colour p 3) (s.count + 1)
    (λ w l. dark-map (scan p 9 none f) (scan (p + 1) 0 none f) s.colour _ (s.rows w).status (s.rows w).job (λ t. t)
    (λ _. upd_case (λ i x. 2 ≤ s.colour i → 2 ≤ x) s.colour p 3 (λ _. omega arith) (λ j m h. h) _)
    (λ _. upd_case (λ i x. s.colour i ≡ 3 → x ≡ 3) s.colour p 3 (λ _. refl) (λ j m h. h) _) (T.jobs w l))
    (upd_case (λ i x. 1 ≤ x → 1 ≤ s.colour i) s.colour p 3 (λ _. omega arith) (λ j m h. h))
    (upd_case (λ i x. x ≤ 3) s.colour p 3 (omega arith) (λ j m. T.colours j)) (λ q. absurd q)

-- the sweep's turn on one cell
pub tidy-swept : {p : ℕ} {s : St} → Closed (sweep p) s → Tidy (sweep p) s
    → Tidy (sweep (p + 1)) (tick (set_colour s p (swept_to (s.colour p))))
tidy-swept {p} {s} C T = tidy-stage T (sweep (p + 1)) _ (s.count + 1)
    (λ w l. dark-zero (sweep p) (sweep (p + 1)) s.colour _ (s.rows w).status (s.rows w).job (C.rows w l).status
    (λ t. t) (T.jobs w l))
    (upd_case (λ i x. floor (sweep (p + 1)) i ≤ x → Live (sweep p) s.colour i) s.colour p _
    (λ h. omega (arith, (swept_iff (s.colour p)).1 (omega arith))) (λ j e h. omega arith))
    (upd_case (λ i x. x ≤ 3) s.colour p _ (omega (arith, swept_3 (s.colour p))) (λ j m. T.colours j)) (λ q. absurd q)
