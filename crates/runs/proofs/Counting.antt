-- The count in the record is the number of working turns since the opening.
use Rattle.std.specs.Prelude.{ℕ, zero, suc, ◌+◌, ◌≡◌, refl, List, [], ◌∷◌, eqb, Err, Ok}
use Rattle.std.proofs.Common.{sym, ◌∙◌, ap, inl, inr, arith, ne_eqb}
use Rattle.moves.specs.Machine as Abstract
use Rattle.moves.specs.Moves.{counted}
use Rattle.moves.proofs.Moves.{count-after}
use Rattle.machine.specs.Choice.{pick}
use Rattle.machine.specs.Store.{Store, Outcome, fresh}
use Rattle.machine.specs.Machine.{Turn, turn}
use Rattle.machine.specs.Run.{run, works, since_opening}
use Rattle.runs.specs.Abs.{stage_at, stage_in, Steps}
use Rattle.runs.specs.Course.{Good}
use Rattle.runs.proofs.Course.{turn-moves, good_turn, good-fresh}
use Rattle.machine.specs.Answer.{Answered}
use Rattle.machine.specs.declared.Answer.TheVariants.{Done, More, Worked, Waited}

-- the count after an answer in stage t, k before it
abbrev counts : Answered → ℕ → ℕ → ℕ
counts a t k = pick (eqb (works a) 0) k (pick (eqb t 0) 1 (k + 1))

-- it is the count of moves
counts-moves : (a : Answered) (t c p k h f : ℕ) → counted (works a) (stage_at t p k h f) c ≡ counts a t c
counts-moves (Ok Done) t c p k h f = refl
counts-moves (Ok More) t c p k h f = refl
counts-moves (Ok Waited) t c p k h f = refl
counts-moves (Err i) t c p k h f = refl
counts-moves (Ok Worked) zero c p k h f = refl
counts-moves (Ok Worked) (suc zero) c p k h f = refl
counts-moves (Ok Worked) (suc (suc zero)) c p k h f = refl
counts-moves (Ok Worked) (suc (suc (suc zero))) c p k h f = refl
counts-moves (Ok Worked) (suc (suc (suc (suc zero)))) c p k h f = refl
counts-moves (Ok Worked) (suc (suc (suc (suc (suc i))))) c p k h f = rw (ne_eqb (suc (suc (suc (suc (suc i))))) 0 (omega arith))

-- no working turn, no change
counts-none : (a : Answered) (t c : ℕ) → works a ≡ 0 → counts a t c ≡ c
counts-none a t c e = rw e

-- one turn
count_turn : (st : Store) (o : Outcome Answered) → Steps st o → o.store.rec.count ≡ counts o.answer st.rec.stage st.rec.count
count_turn st o (inl (mv, e, q, t, E)) =
    ap (λ (s : Abstract.St). s.count) e ∙ count-after mv ∙ ap (λ w. counted w (stage_in st.rec) st.rec.count) t
    ∙ counts-moves o.answer st.rec.stage st.rec.count st.rec.place st.rec.part st.rec.hold st.rec.found
count_turn st o (inr (e, t)) = ap (λ (s : Store). s.rec.count) e ∙ sym (counts-none o.answer st.rec.stage st.rec.count t)

-- a run
count-run : {n g m : ℕ} (turns : List Turn) (st : Store) → Good n g m st → (k : ℕ) → st.rec.count ≡ k
    → (run st turns).rec.count ≡ since_opening k st turns
unfolding run since_opening
count-run [] st G k e = e
count-run (t ∷ ts) st G k e = let h = turn-moves st G.eight t in
    count-run ts (turn t st).store (good_turn st (turn t st) h G) (counts (turn t st).answer st.rec.stage k)
    (count_turn st (turn t st) h ∙ ap (λ k. counts (turn t st).answer st.rec.stage k) e)

-- the count of Demand3
pub is_counted : (n g m : ℕ) (turns : List Turn) → (run (fresh n g m) turns).rec.count ≡ since_opening 0 (fresh n g m) turns
unfolding fresh
is_counted n g m turns = count-run turns (fresh n g m) (good-fresh n g m) 0 refl
