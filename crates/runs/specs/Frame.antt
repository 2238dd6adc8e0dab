-- The frame of a writer's turn: what is left where its row is put back, and what refusals 1 and 3 leave.
use Rattle.std.specs.Prelude.{ℕ, ◌<◌}
use Rattle.machine.specs.Store.{Store}
use Rattle.machine.specs.Turns.{Written, written}
use Rattle.machine.specs.Machine.{put_row}
use Rattle.machine.specs.Turns.{RowTurn}
use Rattle.runs.specs.Abs.{Fit, Eight, Steps}

-- what is left after a row's turn is one move, or nothing changed; the same for a turn that leaves fields and colours
abbrev pub Wrote : Store → ℕ → Written → Type 0
Wrote st w o = Steps st (put_row st w o)

abbrev pub Quiet : Store → ℕ → RowTurn → Type 0
Quiet st w t = Wrote st w (written t st.fields st.colours)

-- what refusals 1 and 3 leave: the parts fit, and w is a writer
pub record At (st : Store) (w : ℕ) : Type 0 where
  pub eight : Eight st.desk
  pub fit : Fit st
  pub writer : w < st.rec.m
