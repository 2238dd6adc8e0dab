use Rattle.turns.proofs.Desk.{row-read}
use Rattle.turns.proofs.plain.row_at.Goals as goal

pub returns : goal.returns
returns c =
    row-read (λ x. x.now) c.args.desk.now c.args.i c.as_chunks.result.0.now c.get.result _ c.as_chunks.ensures.front
    c.get.ensures.lookup.0 c.get.ensures.lookup.1 c.map_or_else.ensures c.as_chunks.ensures.front_len
