use Rattle.std.specs.Prelude.{◌+◌}
use Rattle.machine.specs.Store.{parts}
use Rattle.census.specs.Walk.{missing, waiting}
use Rattle.census.proofs.Marks.{Working}
use Rattle.census.proofs.reach.held_cells.Given as goal

abbrev pub invariant-loop-c : goal.invariant-loop-c
invariant-loop-c l = Working (parts l.fn.rec l.desk l.fields l.colours) l.walk l.opened

abbrev pub decreases-loop-c : goal.decreases-loop-c
decreases-loop-c l = missing l.walk + waiting l.walk
