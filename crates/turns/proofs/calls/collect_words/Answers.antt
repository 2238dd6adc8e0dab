use Rattle.std.proofs.Common.{arith, sym, ◌∙◌}
use Rattle.turns.proofs.Ending.{collect_refused, collect_stands, collect_put}
use Rattle.turns.proofs.calls.collect_words.Goals as goal

pub returns-in_err-turn : goal.returns-in_err-turn
returns-in_err-turn c =
    let h = collect_refused c.args.numbers.now c.args.desk.now c.args.fields.now c.args.colours.now (sym c.shaped.ensures ∙ c.if-not-shaped.false) _ _
    (rw (c.survey_words-seen.ensures, c.record_of-rec.ensures) at c.in_err-turn.ensures) in
    grind arith

pub put_rest-requires : goal.put_rest-requires
put_rest-requires c =
    collect_stands c.args.numbers.now c.args.desk.now c.args.fields.now c.args.colours.now (sym c.shaped.ensures ∙ c.if-not-shaped.false) _ _ _
    (rw (c.survey_words-seen.ensures, c.record_of-rec.ensures) at c.in_ok-turn.ensures)

pub returns : goal.returns
returns c =
    collect_put c.args.numbers.now c.args.desk.now c.args.fields.now c.args.colours.now (sym c.shaped.ensures ∙ c.if-not-shaped.false) _ _ _ _
    (rw (c.survey_words-seen.ensures, c.record_of-rec.ensures) at c.in_ok-turn.ensures) c.put_rest.ensures
