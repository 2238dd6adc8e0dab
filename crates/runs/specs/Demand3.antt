-- DEMAND 3, over the machine's own definition: `fresh n g m` is the store that start fills for n cells, g pages and m writers,
-- `run st turns` the store after these turns, `C n g` the bound. A `Turn` is any writer's call, or the collector's.
use Rattle.std.specs.Prelude.{ℕ, ◌+◌, ◌*◌, ◌≤◌, ◌<◌, ◌≡◌, true, ◌≢◌, List, [], ◌∷◌, ◌++◌, length, get_or, Some, None, Option, Err, Ok}
use Rattle.machine.specs.Limits.{none, limits_ok}
use Rattle.machine.specs.Store.{Store, Outcome, fresh}
use Rattle.machine.specs.Machine.{Turn, writer, turn, row_of}
use Rattle.machine.specs.Run.{run, working_turns, since_opening, C}
use Rattle.machine.specs.declared.Work.TheVariants.{Answering, Storing, Creating}
use Rattle.machine.specs.declared.Call.{Call}
use Rattle.machine.specs.declared.Work.{Work}
use Rattle.machine.specs.Answer.{Answered}
use Rattle.machine.specs.declared.Answer.TheVariants.{More}
use Rattle.machine.specs.declared.Refusal.TheVariants.{BadSize, BadNumber}

-- the cell numbers that a job carries
abbrev pub carried : Option Work → List ℕ
carried None = []
carried (Some (Answering k)) = []
carried (Some (Storing s p)) = s.cell ∷ s.new ∷ s.old ∷ []
carried (Some (Creating m)) = m.cell ∷ []

-- reachable: a page; what a slot holds; what a job carries; what a field of a reachable cell holds (none, 65,535, is no cell)
pub data Reachable (st : Store) : ℕ → Type 0 where
  page : (p : ℕ) → p < st.rec.g → Reachable st p
  slot : (w s : ℕ) → w < st.rec.m → s < 8 → Reachable st (get_or (row_of st w).slots s none)
  job : (w k : ℕ) → w < st.rec.m → k < length (carried (row_of st w).job) → Reachable st (get_or (carried (row_of st w).job) k none)
  field : (x f : ℕ) → Reachable st x → f < 4 → Reachable st (get_or st.fields (x * 4 + f) none)

-- cell x is free; past the colours nothing is
abbrev pub Free : Store → ℕ → Type 0
Free st x = get_or st.colours x 3 ≡ 0

-- writer w's create into slot s begins a creation, and x is the cell that it takes
abbrev pub creates : Store → ℕ → ℕ → Outcome Answered
creates st w s = turn (writer w (Call.Create s)) st

abbrev pub Takes : Store → ℕ → ℕ → ℕ → Type 0
Takes st w s x = ((creates st w s).answer ≡ Ok More) × (carried (row_of (creates st w s).store w).job ≡ x ∷ [])

-- what is asked of a store `new` of n cells and g pages that start has just filled, for every list of turns after it
pub record Holds (n g : ℕ) (new : Store) : Type 0 where
  -- "a cell reachable from a catalogue page, a writer's slot or a cell number an unfinished job carries is never free
  pub never-free : (turns : List Turn) (x : ℕ) → Reachable (run new turns) x → ¬ Free (run new turns) x
  -- and never taken anew;
  pub never-taken : (turns : List Turn) (x : ℕ) → Reachable (run new turns) x → (w s : ℕ) → ¬ Takes (run new turns) w s x
  -- a cell in use and not so reachable has been freed at least once by the time the collector has made 3 × C further working
  -- turns:" later turns with so many working ones among them have a first part after which the cell is free
  pub freed : (turns : List Turn) (x : ℕ) → x < n → ¬ Free (run new turns) x → ¬ Reachable (run new turns) x
      → (later : List Turn) → 3 * C n g ≤ working_turns (run new turns) later
      → (part rest : List Turn) × (later ≡ part ++ rest) × Free (run (run new turns) part) x
  -- "and no cycle takes more than C"; the count in the record is the number of working turns since the opening
  pub cycle : (turns : List Turn) → since_opening 0 new turns ≤ C n g
  pub count : (turns : List Turn) → (run new turns).rec.count ≡ since_opening 0 new turns
  -- "In range": no turn is refused for the numbers of the store, 1, or for a number out of range, 2
  pub in_range : (turns : List Turn) (t : Turn) → ((turn t (run new turns)).answer ≢ Err BadSize) × ((turn t (run new turns)).answer ≢ Err BadNumber)

-- "From a fresh store changed only by these calls, each lent this store's own parts, no second start among them, in every order"
abbrev pub Demand3 : Type 0
Demand3 = (n g m : ℕ) → limits_ok n g m ≡ true → Holds n g (fresh n g m)
