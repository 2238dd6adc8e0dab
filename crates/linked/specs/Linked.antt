-- What the exported calls' contracts and demand 3 give together, for a program in C or Rust that is linked with the exported calls: it starts
-- a store by turns_lent_start and from then on changes it by these calls alone. Then the memory that it has is that of a run, and so all
-- that demand 3 says of runs holds of it.
use Rattle.std.specs.Prelude.{ℕ, ◌*◌, ◌≤◌, ◌<◌, ◌≡◌, ◌≢◌, List, ◌++◌, get_or}
use Rattle.machine.specs.Store.{fresh}
use Rattle.machine.specs.Machine.{Turn}
use Rattle.machine.specs.Run.{run, working_turns, C}
use Rattle.runs.specs.Demand3.{Reachable, Free, Takes}
use Rattle.turns.specs.Calls.{Lent, store_of, result_of}
use Rattle.linked.specs.Called.{turn_by, Called}

-- what such a program may rely on, from the memory `new` that a start has filled
pub record Linked (n g m : ℕ) (new : Lent) : Type 0 where
  -- it begins with a fresh store, and its memory is that of a run
  pub begins : store_of new ≡ fresh n g m
  pub runs : (ts : List Turn) (now : Lent) → Called new ts now → store_of now ≡ run (store_of new) ts
  -- what is reachable isn't free
  pub safe : (ts : List Turn) (now : Lent) → Called new ts now → (x : ℕ) → Reachable (store_of now) x → ¬ Free (store_of now) x
  -- and no create takes it
  pub untaken : (ts : List Turn) (now : Lent) → Called new ts now → (x : ℕ) → Reachable (store_of now) x → (w s : ℕ) → ¬ Takes (store_of now) w s x
  -- a cell in use that isn't reachable has been free by the time that 3 × C working turns are made
  pub freed : (ts : List Turn) (now : Lent) → Called new ts now → (x : ℕ) → x < n → ¬ Free (store_of now) x → ¬ Reachable (store_of now) x
      → (later : List Turn) (after : Lent) → Called now later after → 3 * C n g ≤ working_turns (store_of now) later
      → (part rest : List Turn) × (then : Lent) × (later ≡ part ++ rest) × Called now part then × Free (store_of then) x
  -- the count is the last of the nine numbers, and never passes C
  pub bounded : (ts : List Turn) (now : Lent) → Called new ts now → ((store_of now).rec.count ≡ get_or now.numbers 8 0) × (get_or now.numbers 8 0 ≤ C n g)
  -- no call of a writer or of the collector answers 1 or 2: the lent parts stay of this store's size, and in range
  pub in_range : (ts : List Turn) (now : Lent) → Called new ts now → (t : Turn) (a : ℕ) (after : Lent) → result_of a after ≡ turn_by t now → (a ≢ 1) × (a ≢ 2)
