-- A row and a record whose numbers fit the words that tell them.
use Rattle.std.specs.Prelude.{◌≡◌, ◌<◌, length, Option, Some, None}
use Rattle.machine.specs.declared.Record.{Record}
use Rattle.machine.specs.declared.Row.{Row}
use Rattle.machine.specs.declared.Work.{Work}
use Rattle.machine.specs.declared.Work.TheVariants.{Answering, Storing, Creating}

-- the numbers of a job that are bytes
abbrev pub WorkFits : Work → Type 0
WorkFits (Answering k) = k < 256
WorkFits (Storing s p) = s.field < 256
WorkFits (Creating m) = m.slot < 256

abbrev pub JobFits : Option Work → Type 0
JobFits None = Unit {0}
JobFits (Some w) = WorkFits w

pub record RowFits (row : Row) : Type 0 where
  pub slots : length row.slots ≡ 8
  pub status : row.status < 256
  pub job : JobFits row.job

pub record RecordFits (rec : Record) : Type 0 where
  pub n : rec.n < 65536
  pub g : rec.g < 65536
  pub m : rec.m < 65536
  pub stage : rec.stage < 256
  pub place : rec.place < 65536
  pub part : rec.part < 256
  pub hold : rec.hold < 65536
  pub found : rec.found < 256
