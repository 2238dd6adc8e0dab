use borrow.Author.Rules.{rules}
use Rattle.cells.proofs.Looping.{all_more}
use Rattle.lines.proofs.Reading.{value-more, more}
use Rattle.lines.proofs.numbers.read_number.Goals as goal

pub loop-b-preserved : goal.loop-b-preserved
loop-b-preserved c = record { small = search (rules, more); digits = search (rules, all_more); value = search (rules, value-more) }
