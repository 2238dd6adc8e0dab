-- Demand 3 holds.
use Rattle.std.specs.Prelude.{ℕ, ◌≡◌, true, List}
use Rattle.std.proofs.Common.{leb-true}
use Rattle.moves.specs.Run.{IsStart}
use Rattle.moves.proofs.Reach.{safety}
use Rattle.machine.specs.ChoiceLaws.{hold}
use Rattle.machine.specs.Limits.{limits_ok}
use Rattle.machine.specs.Store.{fresh}
use Rattle.machine.specs.Machine.{Turn}
use Rattle.machine.specs.Run.{run}
use Rattle.runs.specs.Abs.{abs}
use Rattle.runs.specs.Demand3.{Reachable, Free, Holds, Demand3}
use Rattle.runs.proofs.Course.{start_is, good}
use Rattle.runs.proofs.Reaching.{reach}
use Rattle.runs.proofs.Taking.{takes-free}
use Rattle.runs.proofs.Freeing.{is_freed}
use Rattle.runs.proofs.Bounded.{bounded}
use Rattle.runs.proofs.Counting.{is_counted}
use Rattle.runs.proofs.RangeRun.{stays_in_range}

-- what is reachable isn't free
in_use_lem : (n g m : ℕ) → IsStart (abs (fresh n g m)) → (turns : List Turn) (x : ℕ) → Reachable (run (fresh n g m) turns) x
    → ¬ Free (run (fresh n g m) turns) x
in_use_lem n g m S turns x h = safety S (good n g m turns).moves x (reach (run (fresh n g m) turns) h)

-- the sentences, one by one
holds : (n g m : ℕ) → limits_ok n g m ≡ true → IsStart (abs (fresh n g m)) → Holds n g (fresh n g m)
holds n g m e S = record {
  never-free = in_use_lem n g m S;
  never-taken = λ turns x h w s t. in_use_lem n g m S turns x h (takes-free (run (fresh n g m) turns) w s x t);
  freed = is_freed n g m S;
  cycle = λ turns. rw (← is_counted n g m turns) (bounded S (good n g m turns));
  count = is_counted n g m;
  in_range = stays_in_range n g m e;
}

-- THE THEOREM
pub demand3 : Demand3
unfolding limits_ok
demand3 n g m e = let t = hold _ e in holds n g m e (start_is n g m (leb-true _ _ t.1.1.1.1.0) (leb-true _ _ t.1.0))
