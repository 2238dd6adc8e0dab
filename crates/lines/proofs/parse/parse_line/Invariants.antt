use Rattle.lines.proofs.Splitting.{left}
use Rattle.lines.proofs.Walking.{Read}
use Rattle.lines.proofs.parse.parse_line.Given as goal

abbrev pub invariant-loop-field : goal.invariant-loop-field
invariant-loop-field l = record { read : Read l.s l.word l.numbers.items (left l.field-iterator) }
