-- A cell in use that isn't reachable is freed within 3 C working turns.
use Rattle.std.specs.Prelude.{ℕ, ◌+◌, ◌*◌, ◌≤◌, ◌<◌, ◌≡◌, refl, ◌⊎◌, get_or}
use Rattle.std.proofs.Common.{◌∙◌, subst, add-zero, arith}
use Rattle.std.proofs.Math.Path.{ap}
use Rattle.std.proofs.Math.Logic.{inl, inr}
use mathlib.Core.List.{List, [], ◌∷◌, ◌++◌}
use Rattle.std.proofs.Math.Decide.{ℕ_discrete}
use Rattle.moves.specs.Machine as Abstract
use Rattle.moves.specs.Moves.{close}
use Rattle.moves.specs.Run.{IsStart}
use Rattle.moves.proofs.Run.{run-inv}
use Rattle.moves.specs.Fate as Fate
use Rattle.moves.proofs.Fate.{freed}
use Rattle.machine.specs.Store.{Store, Outcome, fresh}
use Rattle.machine.specs.Machine.{Turn, turn}
use Rattle.machine.specs.Run.{run, works, working_turns, C}
use Rattle.runs.specs.Abs.{stage_in, abs, Steps}
use Rattle.runs.specs.Demand3.{Reachable, Free}
use Rattle.runs.specs.Course.{Good}
use Rattle.runs.proofs.Course.{turn-moves, good_turn, good-run, good}
use Rattle.runs.proofs.Reaching.{reached}
use Rattle.machine.specs.Answer.{Answered}

-- after a first part of these turns x is free
abbrev Freed : ℕ → Store → List Turn → Type 0
Freed x st later = (part rest : List Turn) × (later ≡ part ++ rest) × Free (run st part) x

module _ (x : ℕ) (σ₁ : Abstract.Stage) (s₁ : Abstract.St) where
  -- W working turns since s₁, and x was never free on the way
  abbrev Still : ℕ → Store → Type 0
  Still W st = (a : ℕ) × Fate.Later x σ₁ s₁ W a (stage_in st.rec) (abs st)

  -- a turn after which x isn't free
  still : (st : Store) (o : Outcome Answered) (W : ℕ) → Steps st o → ¬ Free o.store x → Still W st → Still (W + works o.answer) o.store
  still st o W (inl (mv, e, q, t, E)) u (a, h) =
      (close mv a, rw (← t, q, e) (Fate.turn h mv (λ z. u (ap (λ (s : Abstract.St). s.colour x) e ∙ z))))
  still st o W (inr (e, t)) u (a, h) = (a, rw (t, e) (rw (add-zero W) h))

  -- what the turns ts come to after the turn t
  abbrev After : Turn → List Turn → Store → ℕ → Type 0
  After t ts st W = Freed x (turn t st).store ts ⊎ Still (W + works (turn t st).answer + working_turns (turn t st).store ts) (run (turn t st).store ts)

  -- in later turns x is freed, or still never was free
  freed_or : {n g m : ℕ} (turns : List Turn) (st : Store) → Good n g m st → (W : ℕ) → Still W st
      → Freed x st turns ⊎ Still (W + working_turns st turns) (run st turns)
  unfolding run working_turns
  freed_or [] st G W h = inr (rw (add-zero W) h)
  freed_or (t ∷ ts) st G W h = let k = turn-moves st G.eight t in
      go (ℕ_discrete (get_or (turn t st).store.colours x 3) 0)
      (λ u. freed_or ts (turn t st).store (good_turn st (turn t st) k G) (W + works (turn t st).answer) (still st (turn t st) W k u h))
    where
      more : After t ts st W → Freed x st (t ∷ ts) ⊎ Still (W + (works (turn t st).answer + working_turns (turn t st).store ts)) (run (turn t st).store ts)
      more (inl (p, r, e, z)) = inl (t ∷ p, r, ap (λ (l : List Turn). t ∷ l) e, z)
      more (inr h) = inr (subst (λ W. Still W (run (turn t st).store ts)) (omega arith) h)

      go : Dec (get_or (turn t st).store.colours x 3 ≡ 0) → (¬ Free (turn t st).store x → After t ts st W)
          → Freed x st (t ∷ ts) ⊎ Still (W + (works (turn t st).answer + working_turns (turn t st).store ts)) (run (turn t st).store ts)
      go (yes z) f = inl (t ∷ [], ts, refl, z)
      go (no u) f = more (f u)

-- the third sentence of Demand3
pub is_freed : (n g m : ℕ) → IsStart (abs (fresh n g m)) → (turns : List Turn) (x : ℕ) → x < n → ¬ Free (run (fresh n g m) turns) x
    → ¬ Reachable (run (fresh n g m) turns) x
    → (later : List Turn) → 3 * C n g ≤ working_turns (run (fresh n g m) turns) later → Freed x (run (fresh n g m) turns) later
unfolding fresh
is_freed n g m S turns x l u h later big = go (freed_or x _ _ later st G 0 (0, Fate.now))
  where
    st : Store
    st = run (fresh n g m) turns

    G : Good n g m (run (fresh n g m) turns)
    G = good n g m turns

    out : (st.rec.n ≤ x) ⊎ Reachable st x → ⊥
    out (inl q) = omega (arith, G.cells)
    out (inr q) = h q

    go : Freed x st later ⊎ Still x (stage_in st.rec) (abs st) (0 + working_turns st later) (run st later) → Freed x st later
    go (inl f) = f
    go (inr (a, z)) = let E = good-run later st G in
        absurd (omega (arith, big, rw (E.cells, E.pages) at (freed S refl G.moves x (omega (arith, G.cells)) u (λ r. out (reached st (run-inv S G.moves) r)) z)))
