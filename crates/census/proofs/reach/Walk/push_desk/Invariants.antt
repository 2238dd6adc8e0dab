use Rattle.std.specs.Prelude.{take}
use Rattle.machine.specs.Census.{slots}
use Rattle.census.specs.Walk.{Pushing}
use Rattle.census.proofs.reach.Walk.push_desk.Given as goal

abbrev pub invariant-loop-row : goal.invariant-loop-row
invariant-loop-row l = Pushing l.initial.self (slots (take l.row-index l.desk)) l.self
