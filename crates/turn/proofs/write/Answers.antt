use Rattle.std.proofs.Common.{arith}
use Rattle.turn.proofs.Laws.{write_meets, write_refused}
use Rattle.turn.proofs.write.Goals as goal

pub returns-in_err-turn : goal.returns-in_err-turn
returns-in_err-turn c =
    let h = write_refused c.args.rec.now c.args.desk.now c.args.fields.now c.args.colours.now c.args.w c.args.call _ _ _ (rw c.row_or-row.ensures at c.in_err-turn.ensures) in
    grind arith

pub returns : goal.returns
returns c =
    write_meets c.args.rec.now c.args.desk.now c.args.fields.now c.args.colours.now c.args.w c.args.call _ _ _ _
    (rw c.row_or-row.ensures at c.in_ok-turn.ensures) c.put_row.ensures
