-- What a program may rely on that starts a store and from then on changes it by the public calls alone.
use Rattle.std.specs.Prelude.{ℕ, ◌*◌, ◌≤◌, ◌<◌, ◌≡◌, ◌≢◌, List, [], ◌∷◌, ◌++◌, Err}
use Rattle.machine.specs.Store.{Store}
use Rattle.machine.specs.Machine.{Turn, turning, Meets}
use Rattle.machine.specs.Run.{working_turns, C}
use Rattle.runs.specs.Demand3.{Reachable, Free, Takes}
use Rattle.machine.specs.Answer.{Answered}
use Rattle.machine.specs.declared.Refusal.TheVariants.{BadSize, BadNumber}

-- these turns, each call of which met its contract, led from one memory to the other
pub data Played : Store → List Turn → Store → Type 0 where
  stay : {st : Store} → Played st [] st
  call : {st next after : Store} {ts : List Turn} (t : Turn) (a : Answered) → Meets (turning t) st a next → Played next ts after → Played st (t ∷ ts) after

-- what such a program may rely on, from the memory `new` that a start has filled
pub record Promised (n g : ℕ) (new : Store) : Type 0 where
  -- what is reachable isn't free
  pub safe : (ts : List Turn) (now : Store) → Played new ts now → (x : ℕ) → Reachable now x → ¬ Free now x
  -- and no create takes it
  pub untaken : (ts : List Turn) (now : Store) → Played new ts now → (x : ℕ) → Reachable now x → (w s : ℕ) → ¬ Takes now w s x
  -- a cell in use that isn't reachable has been free by the time that 3 × C working turns are made
  pub freed : (ts : List Turn) (now : Store) → Played new ts now → (x : ℕ) → x < n → ¬ Free now x → ¬ Reachable now x
      → (later : List Turn) (after : Store) → Played now later after → 3 * C n g ≤ working_turns now later
      → (part rest : List Turn) × (then : Store) × (later ≡ part ++ rest) × Played now part then × Free then x
  -- the count never passes C
  pub bounded : (ts : List Turn) (now : Store) → Played new ts now → now.rec.count ≤ C n g
  -- no call is refused with 1 or 2
  pub in_range : (ts : List Turn) (now : Store) → Played new ts now → (t : Turn) (a : Answered) (after : Store) → Meets (turning t) now a after → (a ≢ Err BadSize) × (a ≢ Err BadNumber)
