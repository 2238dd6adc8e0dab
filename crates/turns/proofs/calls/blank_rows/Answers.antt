use Rattle.std.proofs.Common.{arith}
use Rattle.turns.proofs.Blanking.{blank-begin, blank-next, blank-end}
use Rattle.turns.proofs.calls.blank_rows.Goals as goal

pub loop-i-init : goal.loop-i-init
loop-i-init c = blank-begin c.args.desk.now c.requires

pub loop-i-preserved : goal.loop-i-preserved
loop-i-preserved c = blank-next _ _ _ c.loop-i.invariant _ _ (omega arith) c.fresh_row.ensures c.put_row.ensures

pub returns : goal.returns
returns c = blank-end _ _ _ c.loop-i.invariant (omega arith)
