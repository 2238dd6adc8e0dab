use Rattle.std.proofs.Common.{rules, ◌∙◌, ap, Err}
use Rattle.std.proofs.lemmas.Result.{err_from_is_err_and}
use Rattle.player.proofs.Steps.{barred, played}
use Rattle.player.proofs.store.play_on.Goals as goal

pub returns-in_err-cells : goal.returns-in_err-cells
returns-in_err-cells c =
    let p = err_from_is_err_and c.from_residual.result c.from_residual.ensures.1 in
    barred _ c.args.line c.in_err-cells.field-0.0 _ c.in_err-cells.ensures (p.1 ∙ ap Err p.2)

pub returns : goal.returns
returns c = played _ _ _ _ _ _ _ _ _ (record { rows = search rules; words = search rules; bytes = search rules }) (record { rec_is = search rules; rows = search rules; words = search rules; bytes = search rules; as_many_rows = search rules; as_many_words = search rules; as_many_bytes = search rules })
    c.args.line c.in_ok-cells.ensures c.call.ensures
