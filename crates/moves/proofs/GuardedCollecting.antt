-- Protection under the collector's moves, from the second handshake's end, where tracing begins, to the scan's last part.
use Rattle.std.specs.Prelude.{◌≡◌, refl, ◌≢◌, ℕ, suc, ◌+◌, ◌≤◌, ◌<◌}
use Rattle.std.proofs.Common.{arith}
use Rattle.std.proofs.Math.Decide.{dec_lt, ℕ_discrete}
use Rattle.moves.specs.Base.{upd}
use Rattle.moves.proofs.Base.{upd_case}
use Rattle.moves.specs.Machine.{Stage, ask2, roots, scan, St, none, shade, set_colour, gray, set_count, tick, AllStatus}
use Rattle.moves.proofs.Colours.{gray_up, gray_back, gray-dark}
use Rattle.moves.specs.Closure.{Closed}
use Rattle.moves.proofs.Closure.{none-dark, fits_of}
use Rattle.moves.specs.Protection.{Source, Unread, Solid, dark, source, edge, Guard, Guarded}
use Rattle.moves.proofs.Protection.{row-map, Guard-fold}
use Rattle.moves.specs.Tidiness.{Tidy}
use Rattle.moves.specs.Making.{Blacks}
use Rattle.moves.specs.GuardedCollecting.{GuardWith}

-- fields and rows stay: it is enough that what was guarded still is, and what black cells and read fields name
guarded_move : {σ : Stage} {s : St} → Guarded σ s → (σ' : Stage) (c : ℕ → ℕ) (k : ℕ)
    → ((v : ℕ) → Guard σ s v → GuardWith s σ' c v)
    → ((x f : ℕ) → c x ≡ 3 → f < 4 → GuardWith s σ' c (s.field x f))
    → ((x f : ℕ) → f < 4 → ¬ Unread σ' x f → GuardWith s σ' c (s.field x f))
    → Guarded σ' (record { N = s.N; g = s.g; M = s.M; colour = c; field = s.field; rows = s.rows; count = k })
guarded_move G σ' c k m b u = record {
  rows = λ w l. row-map m (G.rows w l);
  blacks = b;
  passed = u;
  loose = λ w x f l d o. m _ (G.loose w x f l d o);
  pages = λ p l. m _ (G.pages p l);
}

-- The second handshake's end: tracing begins. All writers have status 2, so nothing is asked of their rows yet; pages are
-- sources; a black cell is fresh or past N, so its fields are none; and a loose edge holds a dark value.
pub guarded-asked2 : {s : St} → Closed ask2 s → Tidy ask2 s → Blacks ask2 s → AllStatus s 2 → Guarded (roots 0) (tick s)
guarded-asked2 {s} C T B al = record {
  rows = λ w l. record {
    slots = λ z. absurd (omega (arith, al w l));
    names = λ z. absurd (omega (arith, al w l));
    answered = λ i k e b d. absurd (fits_of C w l e);
  };
  blacks = λ x f e l. rw (blank x f e l (dec_lt x s.N)) (dark (none-dark C));
  passed = λ x f l u. absurd (u tt);
  loose = λ w x f l b h. dark (T.stale tt w x f l (al w l) b h);
  pages = λ p l. source {v = p} (omega arith);
}
  where
    blank : (x f : ℕ) → s.colour x ≡ 3 → f < 4 → Dec (x < s.N) → s.field x f ≡ none
    blank x f e l (yes b) = let k = B x (omega arith) e in (T.fresh k.0 x k.2.1 k.2.0 k.1 k.2.2).own f l
    blank x f e l (no b) = T.blank x f (omega arith) l

-- a page is grayed
pub guarded-root : {p : ℕ} {s : St} → Closed (roots p) s → Guarded (roots p) s → p < s.g
    → Guarded (roots (p + 1)) (tick (gray s p))
guarded-root {p} {s} C G l =
    let c : ℕ → ℕ = upd s.colour p (shade (s.colour p)) in
    let m : (v : ℕ) → Guard (roots p) s v → GuardWith s (roots (p + 1)) c v =
    λ v. Guard-fold (roots p) s (GuardWith s (roots (p + 1)) c) (λ v h. dark (gray_up s.colour p v h))
    (λ v h. one v h (ℕ_discrete v p))
    (λ x f h n u o b. edge x f h (λ q. n (gray_back s.colour p x q)) tt o b refl) in
    guarded_move G (roots (p + 1)) c (s.count + 1) m (λ x f q b. m _ (G.blacks x f (gray_back s.colour p x q) b))
    (λ x f b u. absurd (u tt))
  where
    one : (v : ℕ) → (p ≤ v) × (v < s.g) → Dec (v ≡ p) → GuardWith s (roots (p + 1)) (upd s.colour p (shade (s.colour p))) v
    one v h (yes e) = rw e (dark (gray-dark s.colour p (C.pages p l)))
    one v h (no n) = source {v = v} (omega arith)

-- the stage changes and no colour does: sources go over, and fields stay to be read
guarded-stage : {σ : Stage} {s : St} → Guarded σ s → (σ' : Stage) (k : ℕ)
    → ((v : ℕ) → Source σ s.g v → GuardWith s σ' s.colour v) → ((x f : ℕ) → Unread σ x f → Unread σ' x f)
    → Guarded σ' (set_count s k)
guarded-stage {σ} {s} G σ' k sr us =
    let m : (v : ℕ) → Guard σ s v → GuardWith s σ' s.colour v = λ v. Guard-fold σ s (GuardWith s σ' s.colour)
    (λ v. dark) sr (λ x f h n u o b. edge x f h n (us x f u) o b refl) in
    guarded_move G σ' s.colour k m (λ x f q b. m _ (G.blacks x f q b))
    (λ x f b u. m _ (G.passed x f b (λ y. u (us x f y))))

-- stage 3's end: there is no page left to gray
pub guarded-rooted : {s : St} → Guarded (roots s.g) s → Guarded (scan 0 0 none 0) (tick s)
guarded-rooted {s} G = guarded-stage G (scan 0 0 none 0) (s.count + 1) (λ v h. absurd (omega arith)) (λ x f h q. omega arith)

-- the place moves on, or back to 0 for another pass
pub guarded-skip : {p f : ℕ} {s : St} → Guarded (scan p 0 none f) s → (p' f' : ℕ) → Guarded (scan p' 0 none f') (tick s)
guarded-skip {s} G p' f' = guarded-stage G (scan p' 0 none f') (s.count + 1) (λ v h. source h) (λ x f h q. omega arith)

-- a cell is opened
pub guarded-opened : {p f : ℕ} {s : St} → Guarded (scan p 0 none f) s → Guarded (scan p 1 none 1) (tick s)
guarded-opened {p} {s} G = guarded-stage G (scan p 1 none 1) (s.count + 1) (λ v h. source h) (λ x f h q. omega arith)

-- a field is read into the hold: that edge is gone, and the hold is a source instead
pub guarded-hold : {p f : ℕ} {s : St} (k : ℕ) → Closed (scan p (suc (k + k)) none f) s → Guarded (scan p (suc (k + k)) none f) s
    → Guarded (scan p (suc (suc (k + k))) (s.field p k) f) (tick s)
guarded-hold {p} {f} {s} k C G =
    guarded_move G σ' s.colour (s.count + 1) m (λ x j q b. m _ (G.blacks x j q b))
    (λ x j b u. us x j b u (ℕ_discrete x p) (ℕ_discrete j k))
  where
    σ' : Stage
    σ' = scan p (suc (suc (k + k))) (s.field p k) f

    Q : ℕ → Type 0
    Q = GuardWith s σ' s.colour

    held : (x j : ℕ) → x ≡ p → j ≡ k → Q (s.field x j)
    held x j e d = source {v = s.field x j} (rw (e, d) refl)

    ed : (x j : ℕ) → Q x → s.colour x ≢ 3 → (x ≡ p → suc (k + k) < suc (suc (j + j)))
        → Solid s.M s.rows x j (s.field x j) → j < 4 → Dec (x ≡ p) → Dec (j ≡ k) → Q (s.field x j)
    ed x j h n u o b (yes e) (yes d) = held x j e d
    ed x j h n u o b (yes e) (no d) = edge x j h n (λ q. omega (arith, u e)) o b refl
    ed x j h n u o b (no e) d = edge x j h n (λ q. absurd (e q)) o b refl

    m : (v : ℕ) → Guard (scan p (suc (k + k)) none f) s v → Q v
    m v =
        Guard-fold (scan p (suc (k + k)) none f) s Q (λ v. dark) (λ v h. rw h (dark (none-dark C)))
        (λ x j h n u o b. ed x j h n u o b (ℕ_discrete x p) (ℕ_discrete j k))

    us : (x j : ℕ) → j < 4 → ¬ (x ≡ p → suc (suc (k + k)) < suc (suc (j + j))) → Dec (x ≡ p) → Dec (j ≡ k) → Q (s.field x j)
    us x j b u (yes e) (yes d) = held x j e d
    us x j b u (yes e) (no d) = m _ (G.passed x j b (λ y. u (λ q. omega (arith, y e))))
    us x j b u (no e) d = absurd (u (λ q. absurd (e q)))

-- the hold is grayed
pub guarded-gray-hold : {p h f : ℕ} {s : St} (k : ℕ) → 1 ≤ s.colour h → Guarded (scan p (suc (suc (k + k))) h f) s
    → Guarded (scan p (suc (suc (suc (k + k)))) none f) (tick (gray s h))
guarded-gray-hold {p} {h} {f} {s} k l G =
    let σ' : Stage = scan p (suc (suc (suc (k + k)))) none f in
    let c : ℕ → ℕ = upd s.colour h (shade (s.colour h)) in
    let m : (v : ℕ) → Guard (scan p (suc (suc (k + k))) h f) s v → GuardWith s σ' c v =
    λ v. Guard-fold (scan p (suc (suc (k + k))) h f) s (GuardWith s σ' c) (λ v q. dark (gray_up s.colour h v q))
    (λ v e. rw e (dark (gray-dark s.colour h l)))
    (λ x j q n u o b. edge x j q (λ y. n (gray_back s.colour h x y)) (λ e. omega (arith, u e)) o b refl) in
    guarded_move G σ' c (s.count + 1) m (λ x j q b. m _ (G.blacks x j (gray_back s.colour h x q) b))
    (λ x j b u. m _ (G.passed x j b (λ y. u (λ e. omega (arith, y e)))))

-- part 9: the open cell becomes black, and all its fields are read
pub guarded-done : {p f : ℕ} {s : St} → Guarded (scan p 9 none f) s → Guarded (scan (p + 1) 0 none f) (tick (set_colour s p 3))
guarded-done {p} {f} {s} G = guarded_move G σ' c (s.count + 1) m
    (λ x j. upd_case (λ y q. q ≡ 3 → j < 4 → Q (s.field y j)) s.colour p 3
    (λ _ b. m _ (G.passed p j b (λ u. omega (arith, u refl)))) (λ y n q b. m _ (G.blacks y j q b)) x)
    (λ x j b u. absurd (u (λ q. omega arith)))
  where
    σ' : Stage
    σ' = scan (p + 1) 0 none f

    c : ℕ → ℕ
    c = upd s.colour p 3

    Q : ℕ → Type 0
    Q = GuardWith s σ' c

    m : (v : ℕ) → Guard (scan p 9 none f) s v → Q v
    m v =
        Guard-fold (scan p 9 none f) s Q
        (λ v h. dark (upd_case (λ i x. 2 ≤ s.colour i → 2 ≤ x) s.colour p 3 (λ _. omega arith) (λ j n q. q) v h))
        (λ v h. source h)
        (λ x j h n u o b. edge x j h (upd_case (λ i y. (i ≡ p → 9 < suc (suc (j + j))) → s.colour i ≢ 3 → y ≢ 3)
        s.colour p 3 (λ w _. absurd (omega (arith, w refl))) (λ i _ _ q. q) x u n) (λ q. omega arith) o b refl)
