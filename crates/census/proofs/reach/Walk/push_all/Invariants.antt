use Rattle.std.specs.Prelude.{take}
use Rattle.census.specs.Walk.{Pushing}
use Rattle.census.proofs.reach.Walk.push_all.Given as goal

abbrev pub invariant-loop-v : goal.invariant-loop-v
invariant-loop-v l = Pushing l.initial.self (take l.v-index l.values) l.self
