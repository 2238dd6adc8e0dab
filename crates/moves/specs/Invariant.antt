-- The invariant, which every move keeps.
use Rattle.moves.specs.Machine.{Stage, St}
use Rattle.moves.specs.Closure.{Closed}
use Rattle.moves.specs.Protection.{Tracing, Guarded}
use Rattle.moves.specs.Tidiness.{Tidy}
use Rattle.moves.specs.Making.{Blacks}
use Rattle.moves.specs.Scan.{GrayAhead}

-- The invariant. Protection is asked for while tracing only.
pub record Inv (σ : Stage) (s : St) : Type 0 where
  pub closed : Closed σ s
  pub tidy : Tidy σ s
  pub blacks : Blacks σ s
  pub guarded : Tracing σ → Guarded σ s
  pub ahead : GrayAhead σ s.colour
