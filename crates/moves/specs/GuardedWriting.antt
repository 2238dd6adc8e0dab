-- The stores' plans of which protection under the writers' moves speaks.
use Rattle.moves.specs.Machine.{Plan, bare, trace, full}

-- a plan with an old value
abbrev pub NotBare : Plan → Type 0
NotBare bare = ⊥
NotBare trace = Unit {0}
NotBare full = Unit {0}
