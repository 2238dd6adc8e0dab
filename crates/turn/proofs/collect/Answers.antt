use Rattle.std.proofs.Common.{arith}
use Rattle.turn.proofs.Laws.{collect-meets}
use Rattle.turn.proofs.collect.Goals as goal

pub returns-in_err-turn : goal.returns-in_err-turn
returns-in_err-turn c =
    let h = collect-meets c.args.rec.now c.args.desk.now c.args.fields.now c.args.colours.now _ _ (rw c.survey_desk-seen.ensures at c.in_err-turn.ensures) in
    grind arith

pub returns : goal.returns
returns c =
    collect-meets c.args.rec.now c.args.desk.now c.args.fields.now c.args.colours.now _ _
    (rw c.survey_desk-seen.ensures at c.in_ok-turn.ensures)
