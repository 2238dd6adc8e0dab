use Rattle.std.proofs.Common.{rules, ◌∙◌}
use Rattle.machine.specs.Range.{value_ok}
use Rattle.cells.proofs.Looping.{folded}
use Rattle.cells.proofs.Testing.{same_all}
use Rattle.census.proofs.range.stretch_ok.Goals as goal

pub returns : goal.returns
returns c =
    folded (value_ok c.args.n) c.args.values.now _ c.fold.result c.fold.ensures.ran c.iter.ensures.rest (λ a x b q k. search rules)
    ∙ same_all (value_ok c.args.n) c.args.values.now
