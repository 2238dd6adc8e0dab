-- An exported start that answers 100 has met the machine's contract, and what it left tells a fresh store.
use Rattle.std.specs.Prelude.{ℕ, ◌≡◌, Bool, List, [], length, Ok}
use Rattle.std.proofs.Math.Path.{refl}
use Rattle.std.proofs.Common.{ap, ◌∙◌, arith}
use Rattle.std.proofs.Math.Bool.{true, false}
use Rattle.machine.specs.Choice.{pick, refuse}
use Rattle.machine.specs.ChoiceLaws.{hold}
use Rattle.machine.specs.Limits.{limits_ok, sizes_ok}
use Rattle.machine.specs.Store.{outcome, fits, fresh, start}
use Rattle.machine.specs.Machine.{Turn, outcome_of}
use Rattle.machine.specs.Run.{run}
use Rattle.runs.proofs.Course.{good}
use Rattle.runs.proofs.RangeRun.{run_in_range}
use Rattle.turns.specs.Plain.{answer_number, is_refused}
use Rattle.turns.specs.Calls.{Lent, store_of, shaped, Reply, result_of, ended, made, called, all_after, start_by}
use Rattle.linked.specs.Tellable.{Tellable}
use Rattle.linked.proofs.Tellable.{in_range-tellable}
use Rattle.linked.specs.Telling.{Tells}
use Rattle.linked.proofs.Telling.{all-tells}
use Rattle.linked.specs.Beginning.{Begun}
use Rattle.machine.specs.declared.Answer.TheVariants.{Done}

-- plain numbers can tell every store of a run
pub run-tellable : (n g m : ℕ) → limits_ok n g m ≡ true → (ts : List Turn) → Tellable (run (fresh n g m) ts)
run-tellable n g m e ts = in_range-tellable (run (fresh n g m) ts) (run_in_range n g m e ts) (good n g m ts).eight

module _ (n g m : ℕ) (p : Lent) where
  -- start by its two tests
  start-by : (a b : Bool) → shaped (length p.numbers) (length p.desk) ≡ a → fits n g m (store_of p) ≡ b
      → start_by n g m p ≡ pick a (pick b (result_of 100 (all_after p (fresh n g m))) (result_of 1 p)) (result_of 1 p)
  unfolding called made ended refuse start answer_number is_refused
  start-by true true e d = rw (e, d) refl
  start-by true false e d = rw (e, d) refl
  start-by false b e d = rw e refl

  -- where the second holds: the machine's start, and what is left
  started : fits n g m (store_of p) ≡ true → start n g m (store_of p) ≡ outcome (Ok Done) (fresh n g m)
  unfolding start refuse
  started e = rw e refl

  begins : (new : Lent) → fits n g m (store_of p) ≡ true → new ≡ all_after p (fresh n g m) → Begun n g m p new
  unfolding fits sizes_ok run outcome_of
  begins new e q = record {
    limits = limits;
    meets = record { says = rw (started e) refl; leaves = rw (started e) tells.store };
    tells = tells;
  }
    where
      limits : limits_ok n g m ≡ true
      limits = (hold _ e).0

      tells : Tells new (fresh n g m)
      tells = rw q (all-tells p (fresh n g m) (run-tellable n g m limits []))

  -- a start that answers 100 has passed both
  pub begun : (new : Lent) → result_of 100 new ≡ start_by n g m p → Begun n g m p new
  begun new s = go (shaped (length p.numbers) (length p.desk)) (fits n g m (store_of p)) refl refl
    where
      refused : result_of 100 new ≡ result_of 1 p → Begun n g m p new
      refused q = absurd (omega (arith, ap (λ (r : Reply). r.answer) q))

      go : (a b : Bool) → shaped (length p.numbers) (length p.desk) ≡ a → fits n g m (store_of p) ≡ b → Begun n g m p new
      go true true e d = begins new d (ap (λ (r : Reply). r.after) (s ∙ start-by true true e d))
      go true false e d = refused (s ∙ start-by true false e d)
      go false b e d = refused (s ∙ start-by false b e d)
