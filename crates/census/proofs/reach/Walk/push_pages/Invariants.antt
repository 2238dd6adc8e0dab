use Rattle.std.specs.List.{range_with_len}
use Rattle.census.specs.Walk.{Pushing}
use Rattle.census.proofs.reach.Walk.push_pages.Given as goal

abbrev pub invariant-loop-p : goal.invariant-loop-p
invariant-loop-p l = Pushing l.initial.self (range_with_len 0 l.p) l.self
