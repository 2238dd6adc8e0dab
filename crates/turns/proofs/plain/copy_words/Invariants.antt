use Rattle.turns.proofs.Copying.{Copying}
use Rattle.turns.proofs.plain.copy_words.Given as goal

abbrev pub invariant-loop-i : goal.invariant-loop-i
invariant-loop-i l = Copying l.initial.desk l.at l.words l.desk l.i
