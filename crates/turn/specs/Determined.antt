-- Each public call of this crate fixes its outcome: of the answers and memories after it that its contract allows there is one. The list
-- has no exception.
use Rattle.std.specs.Prelude.{◌≡◌, ℕ}
use Rattle.machine.specs.Store.{Store}
use Rattle.machine.specs.Machine.{Public, starting, turning, writer, collector, Answers, Meets}
use Rattle.machine.proofs.Determined.{determined}
use Rattle.machine.specs.declared.Call.{Call}

abbrev pub OneOutcome : Public → Type 0
OneOutcome p =
    (st : Store) (a b : Answers p) (after after' : Store) → Meets p st a after → Meets p st b after'
    → (a ≡ b) × (after ≡ after')

pub record EachCall : Type 0 where
  pub start : (n g m : ℕ) → OneOutcome (starting n g m)
  pub write : (w : ℕ) (call : Call) → OneOutcome (turning (writer w call))
  pub collect : OneOutcome (turning collector)

pub each-call : EachCall
each-call = record {
  start = λ n g m. determined (starting n g m);
  write = λ w call. determined (turning (writer w call));
  collect = determined (turning collector);
}
