use Rattle.std.proofs.Common.{rules, ◌∙◌, ap, [], length}
use Rattle.player.proofs.Plays.{no_line, last_one}
use Rattle.player.proofs.feed.Player.finish.Goals as goal

pub returns-then-not-is_empty-clause-text : goal.returns-then-not-is_empty-clause-text
returns-then-not-is_empty-clause-text c = no_line _ (ap length c.end_line.ensures.line) ∙ c.end_line.ensures.text [] ∙ last_one _ (search rules)
