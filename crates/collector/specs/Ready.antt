-- What the turns by value ask of their caller: the lent lengths fit, and the count has room. Refusals 1 and 2 have seen to it.
use Rattle.std.specs.Prelude.{ℕ, ◌<◌, List}
use Rattle.machine.specs.declared.Record.{Record}
use Rattle.cells.specs.Sized.{Sized}

pub record Ready (rec : Record) (fields colours : List ℕ) : Type 0 where
  pub sized : Sized rec.n fields colours
  pub room : rec.count < 4294967295
