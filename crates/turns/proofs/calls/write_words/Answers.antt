use Rattle.std.proofs.Common.{arith, sym, ◌∙◌}
use Rattle.turns.proofs.Ending.{write_refused, write_put}
use Rattle.turns.proofs.calls.write_words.Goals as goal

pub returns-in_err-turn : goal.returns-in_err-turn
returns-in_err-turn c =
    let h = write_refused c.args.numbers.now c.args.desk.now c.args.fields.now c.args.colours.now (sym c.shaped.ensures ∙ c.if-not-shaped.false) c.args.w c.args.call _ _ _
    (rw (c.record_of-rec.ensures, c.row_at-row.ensures) at c.in_err-turn.ensures) in
    grind arith

pub returns : goal.returns
returns c =
    write_put c.args.numbers.now c.args.desk.now c.args.fields.now c.args.colours.now (sym c.shaped.ensures ∙ c.if-not-shaped.false) c.args.w c.args.call _ _ _ _ _
    (rw (c.record_of-rec.ensures, c.row_at-row.ensures) at c.in_ok-turn.ensures) c.put_row.ensures
