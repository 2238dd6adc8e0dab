-- Each exported call fixes its outcome: of the answers and lent parts after it that its contract allows there is one.
use Rattle.std.specs.Prelude.{◌≡◌, ℕ, List}
use Rattle.std.proofs.Common.{sym, ap, ◌∙◌}
use Rattle.machine.specs.declared.Call.{Call}
use Rattle.turns.specs.Calls.{Lent, Reply, result_of, start_by, write_by, collect_by, Told, counted, census_by}

abbrev pub OneResult : (Lent → Reply) → Type 0
OneResult f = (p : Lent) (a b : ℕ) (after after' : Lent) → result_of a after ≡ f p → result_of b after' ≡ f p → (a ≡ b) × (after ≡ after')

one-result : (f : Lent → Reply) → OneResult f
one-result f p a b after after' d e = let q = d ∙ sym e in (ap (λ (r : Reply). r.answer) q, ap (λ (r : Reply). r.after) q)

pub record EachCall : Type 0 where
  pub start : (n g m : ℕ) → OneResult (start_by n g m)
  pub write : (w : ℕ) (call : Call) → OneResult (write_by w call)
  pub collect : OneResult collect_by
  pub census : (p : Lent) (counts : List ℕ) (a b : ℕ) (after after' : List ℕ) → counted a after ≡ census_by p counts → counted b after' ≡ census_by p counts → (a ≡ b) × (after ≡ after')

pub each-call : EachCall
each-call = record {
  start = λ n g m. one-result (start_by n g m);
  write = λ w call. one-result (write_by w call);
  collect = one-result collect_by;
  census = λ p counts a b after after' d e. let q = d ∙ sym e in (ap (λ (t : Told). t.answer) q, ap (λ (t : Told). t.counts) q);
}
