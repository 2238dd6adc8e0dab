-- Every turn is one move or changes nothing, so a run from a fresh store is a run of moves.
use Rattle.std.specs.Prelude.{ℕ, zero, suc, ◌+◌, ◌-◌, ◌*◌, ◌≤◌, ◌≡◌, refl, Bool, true, false, cond, ltb, length, get_or, replicate}
use Rattle.std.proofs.Common.{◌∙◌, ap, inl, inr, arith, length-append, get_or-append-add}
use mathlib.Core.List.{List, [], ◌∷◌, ◌++◌}
use Rattle.std.proofs.lemmas.List.{get_or-replicate, length-replicate}
use Rattle.std.proofs.Math.ListN.{get_or-append, get_or-eq_default}
use Rattle.moves.specs.Machine as Abstract
use Rattle.moves.proofs.Moves.{same-N, same-g}
use Rattle.moves.specs.Run.{IsStart, start, then}
use Rattle.machine.specs.Limits.{none}
use Rattle.machine.specs.Store.{Store, Outcome, fresh_row, fresh}
use Rattle.machine.specs.Machine.{Turn, writer, collector, turn}
use Rattle.machine.specs.Run.{run}
use Rattle.machine.specs.declared.Row.{Row}
use Rattle.runs.specs.Abs.{abs_job, abs, Eight, Steps}
use Rattle.runs.proofs.Writer.{write_moves}
use Rattle.runs.proofs.Collect.{collect-moves}
use Rattle.runs.specs.Course.{Good}
use Rattle.machine.specs.Answer.{Answered}

-- any turn
pub turn-moves : (st : Store) → Eight st.desk → (t : Turn) → Steps st (turn t st)
unfolding turn
turn-moves st E (writer w call) = write_moves st E w call
turn-moves st E collector = collect-moves st E

-- ---- start
-- each element of a list of the same, and its default
pub same-each : {A : Type 0} (n i : ℕ) (a : A) → get_or (replicate n a) i a ≡ a
same-each zero i a = refl
same-each (suc n) zero a = refl
same-each (suc n) (suc i) a = same-each n i a

-- a fresh store is a start of moves
pub start_is : (n g m : ℕ) → g ≤ n → n ≤ 4096 → IsStart (abs (fresh n g m))
unfolding fresh
start_is n g m b c = record {
  room = c;
  pages-fit = b;
  whites = λ i l. get_or-append {A = ℕ} (replicate g 1) (replicate (n - g) 0) 3 i (rw length-replicate l) ∙ get_or-replicate g i 1 3 l;
  frees = λ i l h. ap (λ i. get_or {A = ℕ} (replicate g 1 ++ replicate (n - g) 0) i 3) (past i l)
      ∙ get_or-append-add {A = ℕ} (replicate g 1) (replicate (n - g) 0) (i - g) 3 ∙ get_or-replicate (n - g) (i - g) 0 3 (omega arith);
  rest-black = λ i l. get_or-eq_default {A = ℕ} (replicate g 1 ++ replicate (n - g) 0) 3 {n = i}
      (rw (length-append, length-replicate, length-replicate) (omega arith));
  fields = λ x f. both (ltb f 4) (same-each (n * 4) (x * 4 + f) none);
  status = λ w. ap (λ (r : Row). r.status) (same-each m w fresh_row);
  slots = λ w j. ap (λ (r : Row). get_or r.slots j none) (same-each m w fresh_row) ∙ same-each 8 j none;
  jobs = λ w. ap (λ (r : Row). abs_job r.job) (same-each m w fresh_row);
}
  where
    past : (i : ℕ) → g ≤ i → i ≡ length {A = ℕ} (replicate g 1) + (i - g)
    past i l = rw length-replicate (omega arith)

    both : (t : Bool) {v : ℕ} → v ≡ none → cond t v none ≡ none
    both true e = e
    both false e = refl

-- ---- what stays true under turns
-- of a fresh store
pub good-fresh : (n g m : ℕ) → Good n g m (fresh n g m)
unfolding fresh
good-fresh n g m = record {
  eight = λ w. ap (λ (r : Row). length r.slots) (same-each m w fresh_row) ∙ length-replicate 8 none;
  moves = start;
  cells = refl;
  pages = refl;
}

module _ {n g m : ℕ} where
  -- after a turn
  pub good_turn : (st : Store) (o : Outcome Answered) → Steps st o → Good n g m st → Good n g m o.store
  good_turn st o (inl (mv, e, q, t, E)) G = record {
    eight = E;
    moves = rw (q, e) (then G.moves mv);
    cells = ap (λ (s : Abstract.St). s.N) e ∙ same-N mv ∙ G.cells;
    pages = ap (λ (s : Abstract.St). s.g) e ∙ same-g mv ∙ G.pages;
  }
  good_turn st o (inr (e, t)) G = rw e G

  -- after a run
  pub good-run : (turns : List Turn) (st : Store) → Good n g m st → Good n g m (run st turns)
  unfolding run
  good-run [] st G = G
  good-run (t ∷ ts) st G = good-run ts (turn t st).store (good_turn st (turn t st) (turn-moves st G.eight t) G)

-- in every run from a fresh store
pub good : (n g m : ℕ) (turns : List Turn) → Good n g m (run (fresh n g m) turns)
good n g m turns = good-run turns (fresh n g m) (good-fresh n g m)
