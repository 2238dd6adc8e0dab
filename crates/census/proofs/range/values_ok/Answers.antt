use Rattle.std.proofs.Common.{rules, ◌/◌, ◌∙◌, length}
use Rattle.std.proofs.lemmas.Iterator.{YieldsList-from_slice}
use Rattle.std.proofs.lemmas.Iterator.Search.{all_from_yields_List}
use Rattle.std.specs.List.{list_all}
use Rattle.std.specs.Simd.{first_chunks}
use Rattle.machine.specs.Range.{value_ok}
use Rattle.census.proofs.Stretches.{stretched}
use Rattle.census.proofs.range.values_ok.Goals as goal

pub returns : goal.returns
returns c =
    let t = value_ok c.args.n in
    let l = c.args.values.now in
    let all = all_from_yields_List (list_all t) _ _ c.all.result c.all.ensures.ran (YieldsList-from_slice (first_chunks 64 (length l / 64) l) (c.iter.ensures.rest ∙ c.as_chunks.ensures.front)) (λ x b q k. search rules) in
    stretched t 64 (length l / 64) l _ c.all.result c.stretch_ok.result c.both.result c.both.ensures all c.as_chunks.ensures.back c.stretch_ok.ensures
