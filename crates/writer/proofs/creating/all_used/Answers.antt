use Rattle.std.proofs.Common.{rules}
use Rattle.cells.proofs.Looping.{folded}
use Rattle.writer.specs.Used.{used}
use Rattle.writer.proofs.creating.all_used.Goals as goal

pub returns : goal.returns
returns c = folded used c.args.colours.now _ c.fold.result c.fold.ensures.ran c.iter.ensures.rest (λ a x b q k. search rules)
