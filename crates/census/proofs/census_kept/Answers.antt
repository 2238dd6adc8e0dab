use Rattle.std.proofs.Common.{arith}
use Rattle.census.proofs.ByValue.{kept_made}
use Rattle.census.proofs.census_kept.Goals as goal

pub returns : goal.returns
returns c = kept_made _ _ _ _ _ (grind arith) (rw c.rows_of.ensures at c.census_core.ensures)
