use Rattle.std.proofs.Common.{arith}
use Rattle.turn.proofs.Laws.{start-done, start-refused}
use Rattle.turn.proofs.start.Goals as goal

pub returns-in_err-fresh : goal.returns-in_err-fresh
returns-in_err-fresh c =
    let h = start-refused c.args.rec.now c.args.desk.now c.args.fields.now c.args.colours.now c.args.n c.args.g c.args.m _ _ _ c.in_err-fresh.ensures in
    grind arith

pub returns : goal.returns
returns c =
    start-done c.args.rec.now c.args.desk.now c.args.fields.now c.args.colours.now c.args.n c.args.g c.args.m _ _ _ _
    c.in_ok-fresh.ensures
    (rw c.fresh_row.ensures at (c.fill.ensures.after (λ y e. e)))
