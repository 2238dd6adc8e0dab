-- The count never exceeds C.
use Rattle.std.specs.Prelude.{ℕ, ◌≤◌, refl}
use Rattle.moves.specs.Run.{IsStart}
use Rattle.moves.proofs.Run.{run-inv}
use Rattle.moves.proofs.Bound.{run-bound, bound-C, run-placed}
use Rattle.machine.specs.Store.{Store, fresh}
use Rattle.machine.specs.Run.{C}
use Rattle.runs.specs.Abs.{stage_in, abs}
use Rattle.runs.specs.Course.{Good}

-- the bound of moves, for a store that a run leads to
pub bounded : {n g m : ℕ} {st : Store} → IsStart (abs (fresh n g m)) → Good n g m st → st.rec.count ≤ C n g
unfolding fresh
bounded {st = st} S G =
    rw (G.cells, G.pages) at (bound-C (stage_in st.rec) (run-inv S G.moves) (run-bound S refl G.moves) (run-placed G.moves))
