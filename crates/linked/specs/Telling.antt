-- Lent parts tell a store.
use Rattle.std.specs.Prelude.{◌≡◌, length}
use Rattle.machine.specs.Store.{Store}
use Rattle.turns.specs.Calls.{Lent, store_of, Shaped}

-- nine numbers, and whole rows
abbrev pub Whole : Lent → Type 0
Whole p = Shaped (length p.numbers) (length p.desk)

-- the lent parts p tell this store, in whole rows
pub record Tells (p : Lent) (st : Store) : Type 0 where
  pub store : store_of p ≡ st
  pub whole : Whole p
