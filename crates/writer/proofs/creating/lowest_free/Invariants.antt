use Rattle.std.proofs.Common.{length, ◌+◌}
use Rattle.writer.specs.Used.{Past}
use Rattle.writer.proofs.creating.lowest_free.Given as goal

abbrev pub invariant-loop-i : goal.invariant-loop-i
invariant-loop-i l = Past l.colours (l.initial.i-iterator.n + length l.yielded)
