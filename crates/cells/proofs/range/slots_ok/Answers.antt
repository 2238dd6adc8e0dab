use Rattle.std.proofs.Common.{rules}
use Rattle.machine.specs.Range.{value_ok}
use Rattle.cells.proofs.Looping.{folded}
use Rattle.cells.proofs.range.slots_ok.Goals as goal

pub returns : goal.returns
returns c = folded (value_ok c.args.n) c.args.slots _ c.fold.result c.fold.ensures.ran c.iter.ensures.rest (λ a x b q k. search rules)
