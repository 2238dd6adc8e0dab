use Rattle.std.proofs.Common.{arith}
use Rattle.census.proofs.ByValue.{core_made}
use Rattle.census.proofs.by_value.census_core.Goals as goal

pub returns : goal.returns
returns c = core_made _ _ _ _ _ _ (grind arith) (omega arith) c.census.ensures
