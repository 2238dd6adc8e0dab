-- A memory that plain numbers tell as it is, whatever turns follow.
use Rattle.std.specs.Prelude.{List}
use Rattle.machine.specs.Machine.{Turn}
use Rattle.machine.specs.Run.{run}
use Rattle.turns.specs.Calls.{Lent, store_of}
use Rattle.linked.specs.Tellable.{Tellable}
use Rattle.linked.specs.Telling.{Whole}

-- a memory that plain numbers tell as it is, whatever turns follow
pub record Lasting (p : Lent) : Type 0 where
  pub whole : Whole p
  pub tellable : (ts : List Turn) → Tellable (run (store_of p) ts)
