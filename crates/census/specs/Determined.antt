-- The census fixes its answer, like every public call.
use Rattle.machine.specs.Machine.{counting}
use Rattle.machine.proofs.Determined.{determined}
use Rattle.turn.specs.Determined.{OneOutcome}

pub one-outcome : OneOutcome counting
one-outcome = determined counting
