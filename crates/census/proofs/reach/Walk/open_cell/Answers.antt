use Rattle.census.proofs.Walks.{fields_pushed}
use Rattle.census.proofs.reach.Walk.open_cell.Goals as goal

pub returns : goal.returns
returns c = fields_pushed _ _ c.args.fields.now c.args.c c.requires c.push_all.ensures
