use Rattle.std.proofs.Common.{arith}
use Rattle.machine.specs.Range.{status_ok}
use Rattle.machine.specs.Collector.{has_status}
use Rattle.turn.proofs.Asking.{asked_all}
use Rattle.turn.proofs.Seeing.{seen_all, seen_bad}
use Rattle.turn.proofs.desk.survey_desk.Goals as goal

pub returns-then-fit : goal.returns-then-fit
returns-then-fit c =
    seen_all c.args.rec c.args.desk.now c.rows_read.result c.rows_read.ensures _ _ _
    (asked_all status_ok _ _ _ (omega arith) c.loop-row.invariant.0) c.if-fit.true
    c.posted-number.ensures (asked_all (has_status c.posted-number.result) _ _ _ (omega arith) c.loop-row.invariant.1)

pub returns-else-fit : goal.returns-else-fit
returns-else-fit c =
    seen_bad c.args.rec c.args.desk.now c.rows_read.result c.rows_read.ensures _
    (asked_all status_ok _ _ _ (omega arith) c.loop-row.invariant.0) c.if-fit.false
