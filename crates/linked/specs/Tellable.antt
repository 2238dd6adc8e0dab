-- A store that plain numbers can tell.
use Rattle.std.specs.Prelude.{ℕ}
use Rattle.machine.specs.Store.{Store}
use Rattle.machine.specs.Machine.{row_of}
use Rattle.turns.specs.Fits.{RowFits, RecordFits}

-- its record and its rows are told whole by their numbers (`record_back`, `row_back`)
pub record Tellable (st : Store) : Type 0 where
  pub rec : RecordFits st.rec
  pub rows : (w : ℕ) → RowFits (row_of st w)
