use Rattle.std.proofs.Common.{◌≡◌, take}
use Rattle.std.specs.List.{list_all}
use Rattle.machine.specs.Range.{status_ok}
use Rattle.machine.specs.Collector.{has_status}
use Rattle.turn.proofs.desk.survey_desk.Given as goal

-- the rows so far are asked
abbrev pub invariant-loop-row : goal.invariant-loop-row
invariant-loop-row l = (l.fit ≡ list_all status_ok (take l.row-index l.row-items)) × (l.same ≡ list_all (has_status l.number) (take l.row-index l.row-items))
