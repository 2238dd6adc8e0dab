use Rattle.std.proofs.Common.{arith, sym, ◌∙◌}
use Rattle.turns.proofs.Ending.{start_refused, start_put}
use Rattle.turns.proofs.calls.start_words.Goals as goal

pub returns-in_err-rec : goal.returns-in_err-rec
returns-in_err-rec c =
    let h = start_refused c.args.numbers.now c.args.desk.now c.args.fields.now c.args.colours.now (sym c.shaped.ensures ∙ c.if-not-shaped.false) c.args.n c.args.g c.args.m _ _ _ c.in_err-rec.ensures in
    grind arith

pub returns : goal.returns
returns c =
    start_put c.args.numbers.now c.args.desk.now c.args.fields.now c.args.colours.now (sym c.shaped.ensures ∙ c.if-not-shaped.false) c.args.n c.args.g c.args.m _ _ _ _ _
    c.in_ok-rec.ensures c.blank_rows.ensures c.put_record.ensures
