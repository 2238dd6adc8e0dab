-- A call's list of tests where those of refusals 1 and 2 hold.
use Rattle.std.specs.Prelude.{◌≤◌, ◌≡◌, ◌⊎◌, List, [], ◌∷◌, Bool, true}
use Rattle.machine.specs.Answer.{number}
use Rattle.machine.specs.declared.Refusal.{Refusal}

-- each of the tests holds, but for those whose refusal has a number from 3 on
abbrev pub Clear : List (Bool × Refusal) → Type 0
Clear [] = Unit {0}
Clear (t ∷ ts) = ((t.0 ≡ true) ⊎ (3 ≤ number t.1)) × Clear ts
