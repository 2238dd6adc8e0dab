-- What always holds of a walk: there is a mark for each cell, and a place on the stack for each cell that is not marked.
use Rattle.std.specs.Prelude.{◌≡◌, ℕ, zero, suc, ◌+◌, ◌≤◌, Bool, List, [], ◌∷◌, length}
use Rattle.machine.specs.Choice.{pick}

-- how many of the first n cells are not marked
unfoldable pub unmarked : List Bool → ℕ → ℕ
unmarked m zero = 0
unmarked [] (suc n) = suc (unmarked [] n)
unmarked (b ∷ m) (suc n) = pick b (unmarked m n) (suc (unmarked m n))

pub record Room (cs : List ℕ) (ms : List Bool) (st : List ℕ) : Type 0 where
  pub cells : length cs ≤ 4096
  pub marks : length ms ≡ 4096
  pub places : unmarked ms (length cs) + length st ≤ length cs
