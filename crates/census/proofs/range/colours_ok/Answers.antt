use Rattle.std.proofs.Common.{rules}
use Rattle.machine.specs.Range.{colour_ok}
use Rattle.cells.proofs.Looping.{folded}
use Rattle.census.proofs.range.colours_ok.Goals as goal

pub returns : goal.returns
returns c = folded colour_ok c.args.colours.now _ c.fold.result c.fold.ensures.ran c.iter.ensures.rest (λ a x b q k. search rules)
