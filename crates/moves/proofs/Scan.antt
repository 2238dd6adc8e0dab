-- The scan's passes: a gray cell that is left stays at the place or past it. So a pass that opens no cell ends with no gray cell
-- left.
use Rattle.std.specs.Prelude.{◌≡◌, refl, ◌≢◌, ℕ, zero, suc, ◌+◌, ◌≤◌}
use Rattle.std.proofs.Common.{◌∙◌, ap, arith}
use Rattle.std.proofs.Math.Decide.{ℕ_discrete}
use Rattle.moves.specs.Base.{upd}
use Rattle.moves.proofs.Base.{upd_case}
use Rattle.moves.specs.Machine.{Stage, rest, ask1, ask2, roots, scan, sweep, St, none, shade}
use Rattle.moves.proofs.Colours.{shade-dark}
use Rattle.moves.specs.Closure.{MayWhiten, Closed}
use Rattle.moves.specs.Protection.{Guard}
use Rattle.moves.proofs.Protection.{Guard-fold}
use Rattle.moves.specs.Tidiness.{Tidy}
use Rattle.moves.specs.Scan.{GrayAhead, IsScan}

-- if a number that is guarded is not black, while no cell is open and found is 0, then some cell is gray
some_gray : {p h : ℕ} {s : St} → Closed (scan p zero h zero) s → Tidy (scan p zero h zero) s → h ≡ none → {v : ℕ}
    → Guard (scan p zero h zero) s v → s.colour v ≢ 3 → (y : ℕ) × (s.colour y ≡ 2)
some_gray {p} {h} {s} C T e {v} = Guard-fold (scan p zero h zero) s (λ v. s.colour v ≢ 3 → (y : ℕ) × (s.colour y ≡ 2))
    (λ v d n. (v, omega (arith, T.colours v)))
    (λ v q n. absurd (n (ap s.colour (q ∙ e) ∙ C.nil none (omega (arith, C.room))))) (λ x f q n u o b _. q n)

-- a guarded number is grayed: if it was white, a gray cell stood before, and one stands ahead
pub ahead-gray : (σ : Stage) (s : St) → Closed σ s → Tidy σ s → GrayAhead σ s.colour → (v : ℕ) → (IsScan σ → Guard σ s v)
    → GrayAhead σ (upd s.colour v (shade (s.colour v)))
ahead-gray rest s C T E v h = tt
ahead-gray ask1 s C T E v h = tt
ahead-gray ask2 s C T E v h = tt
ahead-gray (roots p) s C T E v h = tt
ahead-gray (scan p zero q zero) s C T E v h = (E.0, λ x e. go x (old x e))
  where
    c : ℕ → ℕ
    c = upd s.colour v (shade (s.colour v))

    white-v : Dec (s.colour v ≡ 3) → shade (s.colour v) ≡ 2 → (y : ℕ) × (s.colour y ≡ 2)
    white-v (yes d) e = absurd (omega (arith, shade-dark (s.colour v) (omega arith)))
    white-v (no d) e = some_gray C T E.0 (h tt) d

    old : (x : ℕ) → c x ≡ 2 → (y : ℕ) × (s.colour y ≡ 2)
    old =
        upd_case (λ i x. x ≡ 2 → (y : ℕ) × (s.colour y ≡ 2)) s.colour v _ (white-v (ℕ_discrete (s.colour v) 3))
        (λ j n e. (j, e))

    go : (x : ℕ) → (y : ℕ) × (s.colour y ≡ 2) → (y : ℕ) × (p ≤ y) × (c y ≡ 2)
    go x (y, e) =
        let z = E.1 y e in (
          z.0,
          z.1,
          upd_case (λ i x. s.colour i ≡ 2 → x ≡ 2) s.colour v _ (λ e. shade-dark (s.colour v) (omega arith) ∙ e)
              (λ j n e. e) z.0 z.2,
        )
ahead-gray (scan p zero q (suc f)) s C T E v h = tt
ahead-gray (scan p (suc k) q zero) s C T E v h = absurd E
ahead-gray (scan p (suc k) q (suc f)) s C T E v h = tt
ahead-gray (sweep p) s C T E v h = tt

-- a free cell is taken: the gray cells stay
pub ahead-take : (σ : Stage) (c : ℕ → ℕ) (n : ℕ) → c n ≡ 0 → GrayAhead σ c → GrayAhead σ (upd c n 3)
ahead-take rest c n z E = tt
ahead-take ask1 c n z E = tt
ahead-take ask2 c n z E = tt
ahead-take (roots p) c n z E = tt
ahead-take (scan p zero q zero) c n z E = (
  E.0,
  λ x e.
      let a = E.1 x (upd_case (λ i x. x ≡ 2 → c i ≡ 2) c n 3 (λ e. absurd (omega arith)) (λ j m e. e) x e) in
      (a.0, a.1, upd_case (λ i x. c i ≡ 2 → x ≡ 2) c n 3 (λ e. absurd (omega arith)) (λ j m e. e) a.0 a.2),
)
ahead-take (scan p zero q (suc f)) c n z E = tt
ahead-take (scan p (suc k) q zero) c n z E = absurd E
ahead-take (scan p (suc k) q (suc f)) c n z E = tt
ahead-take (sweep p) c n z E = tt

-- no creation decides white in stage 4
pub ahead-white : (σ : Stage) (c : ℕ → ℕ) (st n : ℕ) → MayWhiten σ st n → GrayAhead σ c → GrayAhead σ (upd c n 1)
ahead-white rest c st n m E = tt
ahead-white ask1 c st n m E = tt
ahead-white ask2 c st n m E = tt
ahead-white (roots p) c st n m E = tt
ahead-white (scan p zero q zero) c st n m E = absurd m
ahead-white (scan p zero q (suc f)) c st n m E = absurd m
ahead-white (scan p (suc k) q zero) c st n m E = absurd m
ahead-white (scan p (suc k) q (suc f)) c st n m E = absurd m
ahead-white (sweep p) c st n m E = tt

-- the place passes a cell that is not gray
pub ahead-skip : (s : St) (p f : ℕ) → s.colour p ≢ 2 → GrayAhead (scan p 0 none f) s.colour
    → GrayAhead (scan (p + 1) 0 none f) s.colour
ahead-skip s p zero n E = (refl, λ x e. let z = E.1 x e in (z.0, le z.0 z.2 z.1 (ℕ_discrete p z.0), z.2))
  where
    le : (y : ℕ) → s.colour y ≡ 2 → p ≤ y → Dec (p ≡ y) → p + 1 ≤ y
    le y q b (yes i) = absurd (n (ap s.colour i ∙ q))
    le y q b (no i) = omega arith
ahead-skip s p (suc f) n E = tt

-- the next part of the open cell
pub ahead-part : (p k k' h h' f : ℕ) (c : ℕ → ℕ) → GrayAhead (scan p (suc k) h f) c → GrayAhead (scan p (suc k') h' f) c
ahead-part p k k' h h' zero c E = E
ahead-part p k k' h h' (suc f) c E = tt

-- while a cell is open the colours do not matter
pub ahead_any : (p k h f : ℕ) (c c' : ℕ → ℕ) → GrayAhead (scan p (suc k) h f) c → GrayAhead (scan p (suc k) h f) c'
ahead_any p k h zero c c' E = E
ahead_any p k h (suc f) c c' E = tt

-- the end of the open cell: found is 1
pub ahead-done : (p f : ℕ) (c c' : ℕ → ℕ) → GrayAhead (scan p 9 none f) c → GrayAhead (scan (p + 1) 0 none f) c'
ahead-done p zero c c' E = absurd E
ahead-done p (suc f) c c' E = tt
