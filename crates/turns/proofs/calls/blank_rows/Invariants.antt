use Rattle.turns.proofs.Blanking.{Blanking}
use Rattle.turns.proofs.calls.blank_rows.Given as goal

abbrev pub invariant-loop-i : goal.invariant-loop-i
invariant-loop-i l = Blanking l.initial.desk l.desk l.i
