-- What stays true under turns: the store is one that a run of moves leads to.
use Rattle.std.specs.Prelude.{ℕ, ◌≡◌}
use Rattle.moves.specs.Run.{Run}
use Rattle.machine.specs.Store.{Store, fresh}
use Rattle.runs.specs.Abs.{stage_in, abs, Eight}

-- ---- what stays true under turns
pub record Good (n g m : ℕ) (st : Store) : Type 0 where
  pub eight : Eight st.desk
  pub moves : Run (abs (fresh n g m)) (stage_in st.rec) (abs st)
  pub cells : st.rec.n ≡ n
  pub pages : st.rec.g ≡ g
