-- The frame of a writer's turn on a store in range: what the refusals leave, and what is asked of what is left after the turn.
use Rattle.std.specs.Prelude.{ℕ, ◌<◌}
use Rattle.machine.specs.Store.{Store}
use Rattle.machine.specs.Turns.{Written, written}
use Rattle.machine.specs.Machine.{put_row}
use Rattle.machine.specs.Turns.{RowTurn}
use Rattle.runs.specs.Frame.{At}
use Rattle.runs.specs.Range.{InRange, Fine}

-- what refusals 1, 2 and 3 (for the writer) leave: the parts fit, w is a writer, everything is in range
pub record Sound (st : Store) (w : ℕ) : Type 0 where
  pub at : At st w
  pub range : InRange st
  pub count : st.rec.count < 4294967295

-- what is left after a row's turn is fine; the same for a turn that leaves fields and colours
abbrev pub FineRow : Store → ℕ → Written → Type 0
FineRow st w o = Fine (put_row st w o)

abbrev pub FineQuiet : Store → ℕ → RowTurn → Type 0
FineQuiet st w t = FineRow st w (written t st.fields st.colours)
