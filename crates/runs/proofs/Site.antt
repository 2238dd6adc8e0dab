-- What the public calls' contracts and demand 3 give together, for a program that starts a store and from then on changes it by these
-- calls alone: the memory that it has is that of a run, and so all that demand 3 says of runs holds of it.
use Rattle.std.specs.Prelude.{ℕ, ◌*◌, ◌≤◌, ◌≡◌, refl, Bool, true, false, ◌≢◌, List, [], ◌∷◌, Err, Ok}
use Rattle.std.proofs.Common.{sym, ◌∙◌, subst, arith}
use Rattle.machine.specs.Choice.{refuse}
use Rattle.machine.specs.ChoiceLaws.{hold}
use Rattle.machine.specs.Limits.{limits_ok, sizes_ok}
use Rattle.machine.specs.Store.{Store, fits, fresh, start}
use Rattle.machine.proofs.AnswerLaws.{answer-said}
use Rattle.machine.specs.Machine.{Turn, turn, starting, turning, outcome_of, Meets}
use Rattle.machine.specs.Run.{run, working_turns, C}
use Rattle.runs.specs.Demand3.{Reachable, Free, Takes, Holds}
use Rattle.runs.proofs.Demand3.{demand3}
use Rattle.runs.specs.Site.{Played, stay, call, Promised}
use Rattle.machine.specs.Answer.{Answered}
use Rattle.machine.specs.declared.Answer.TheVariants.{Done}
use Rattle.machine.specs.declared.Refusal.TheVariants.{BadSize, BadNumber}

-- the memory is that of the run, and each run can be played
pub played-run : {st after : Store} {ts : List Turn} → Played st ts after → after ≡ run st ts
unfolding run outcome_of
played-run stay = refl
played-run (call {st} {next} {after} {ts} t a m p) = played-run p ∙ rw m.leaves refl

plays : (st : Store) (ts : List Turn) → Played st ts (run st ts)
unfolding run outcome_of
plays st [] = stay
plays st (t ∷ ts) = call t (turn t st).answer (record { says = refl; leaves = refl }) (plays (turn t st).store ts)

answered : {st after : Store} {a : Answered} (t : Turn) → Meets (turning t) st a after → a ≡ (turn t st).answer
unfolding outcome_of
answered {st} {after} {a} t m = answer-said a (turn t st).answer m.says

fresh-promised : {n g : ℕ} {new : Store} → Holds n g new → Promised n g new
fresh-promised {n} {g} {new} h = record {
  safe = λ ts now p x r. subst (λ (s : Store). Reachable s x → ¬ Free s x) (sym (played-run p)) (h.never-free ts x) r;
  untaken = λ ts now p x. subst (λ (s : Store). Reachable s x → (w k : ℕ) → ¬ Takes s w k x) (sym (played-run p)) (h.never-taken ts x);
  freed = λ ts now p x b f r later after q w.
      let e = played-run p in
      let k = h.freed ts x b (subst (λ (s : Store). ¬ Free s x) e f) (subst (λ (s : Store). ¬ Reachable s x) e r) later (subst (λ (s : Store). 3 * C n g ≤ working_turns s later) e w) in
      (k.0, k.1, run now k.0, k.2, plays now k.0, subst (λ (s : Store). Free (run s k.0) x) (sym e) k.3);
  bounded = λ ts now p. subst (λ (s : Store). s.rec.count ≤ C n g) (sym (played-run p)) (rw (h.count ts) (h.cycle ts));
  in_range = λ ts now p t a after m.
      let k = subst (λ (s : Store). ((turn t s).answer ≢ Err BadSize) × ((turn t s).answer ≢ Err BadNumber)) (sym (played-run p)) (h.in_range ts t) in
      let e = answered t m in
      (λ q. k.0 (sym e ∙ q), λ q. k.1 (sym e ∙ q));
}

-- a start that says done has left a fresh store, whose numbers are within the limits
begun : (n g m : ℕ) (st new : Store) → Meets (starting n g m) st (Ok Done) new → (limits_ok n g m ≡ true) × (new ≡ fresh n g m)
unfolding outcome_of start fits sizes_ok refuse
begun n g m st new k = go (fits n g m st) refl
  where
    go : (b : Bool) → fits n g m st ≡ b → (limits_ok n g m ≡ true) × (new ≡ fresh n g m)
    go true e = ((hold _ e).0, k.leaves ∙ rw (e, start, refuse) refl)
    go false e = absurd (never (rw (e, start, refuse) at (answer-said (Ok Done) (start n g m st).answer k.says)))
      where
        never : ◌≡◌ {A = Answered} (Ok Done) (Err BadSize) → ⊥
        never q = let z : ◌≡◌ {A = ℕ} 0 1 = cc in omega arith

-- what such a program may rely on
pub promised : (n g m : ℕ) (st new : Store) → Meets (starting n g m) st (Ok Done) new → Promised n g new
promised n g m st new k = let b = begun n g m st new k in subst (λ (s : Store). Promised n g s) (sym b.1) (fresh-promised (demand3 n g m b.0))
