-- What an exported start that answers 100 has done.
use Rattle.std.specs.Prelude.{ℕ, ◌≡◌, Ok}
use Rattle.std.proofs.Math.Bool.{true}
use Rattle.machine.specs.Limits.{limits_ok}
use Rattle.machine.specs.Store.{fresh}
use Rattle.machine.specs.Machine.{starting, Meets}
use Rattle.turns.specs.Calls.{Lent, store_of}
use Rattle.linked.specs.Telling.{Tells}
use Rattle.machine.specs.declared.Answer.TheVariants.{Done}

-- what such a start has done: its numbers are within the limits, and a fresh store is told
pub record Begun (n g m : ℕ) (p new : Lent) : Type 0 where
  pub limits : limits_ok n g m ≡ true
  pub meets : Meets (starting n g m) (store_of p) (Ok Done) (store_of new)
  pub tells : Tells new (fresh n g m)
