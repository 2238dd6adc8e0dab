use Rattle.std.proofs.Common.{arith, sym, ◌∙◌}
use Rattle.turns.proofs.Gathering.{all_gathered}
use Rattle.turns.proofs.Counting.{census_shapeless, census_unsix, census_kept, census_put}
use Rattle.turns.proofs.calls.census_words.Goals as goal
use Rattle.turns.proofs.calls.census_words.Goals.{then-not-shaped-via-then-not-shaped, then-not-shaped-via-else-not-shaped+then-counts-ne6}

pub returns-then-not-shaped : goal.returns-then-not-shaped
returns-then-not-shaped c =
    elim c.then-not-shaped.branch [
      | then-not-shaped-via-then-not-shaped w ↦ census_shapeless _ _ _ _ _ (sym c.shaped.ensures ∙ w.if-not-shaped.true)
      | then-not-shaped-via-else-not-shaped+then-counts-ne6 w ↦ census_unsix _ _ _ _ _ (sym c.shaped.ensures ∙ w.if-not-shaped.false) w.if-counts-ne6.true
    ]

pub returns-in_err-c : goal.returns-in_err-c
returns-in_err-c c =
    let h = census_kept c.args.numbers.now c.args.desk.now c.args.fields.now c.args.colours.now c.args.counts.now (sym c.shaped.ensures ∙ c.if-not-shaped.false) c.if-counts-ne6.false _ (all_gathered _ _ c.gather-own.ensures) _ (rw c.record_of-rec.ensures at c.in_err-c.ensures) in
    grind arith

pub returns : goal.returns
returns c =
    census_put c.args.numbers.now c.args.desk.now c.args.fields.now c.args.colours.now c.args.counts.now (sym c.shaped.ensures ∙ c.if-not-shaped.false) c.if-counts-ne6.false _ (all_gathered _ _ c.gather-own.ensures) _ _
    (rw c.record_of-rec.ensures at c.in_ok-c.ensures) (grind arith)
