-- That an exported call left what tells the machine's store after the same call.
use Rattle.std.specs.Prelude.{◌≡◌}
use Rattle.machine.specs.Store.{Outcome}
use Rattle.turns.specs.Plain.{answer_number}
use Rattle.turns.specs.Calls.{Reply}
use Rattle.linked.specs.Telling.{Tells}
use Rattle.machine.specs.Answer.{Answered}

-- an exported call gave r where the machine's call makes o: it answered the machine's number, and what it left tells the machine's store
pub record Kept (o : Outcome Answered) (r : Reply) : Type 0 where
  pub answer : r.answer ≡ answer_number o.answer
  pub tells : Tells r.after o.store
