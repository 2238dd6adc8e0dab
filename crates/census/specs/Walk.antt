-- The walk through the held cells: its marks, of the cells that are reached, and its stack, which holds the cells that are marked and not yet opened.
use Rattle.std.specs.Prelude.{◌≡◌, ℕ, ◌≢◌, List, [], ◌∷◌, ◌++◌, length, slice_index_or, slice_set, replicate, true, false}
use Rattle.std.specs.List.{FoldsTo}
use Rattle.machine.specs.Parts.{colour_of}
use Rattle.census.specs.Room.{unmarked}
use Rattle.census.specs.declared.reach.Walk.{Walk}

-- a cell in use: what is no cell reads as free
abbrev pub Used : Walk → ℕ → Type 0
Used w c = colour_of w.colours.now c ≢ 0

abbrev pub On : Walk → ℕ → Type 0
On w c = slice_index_or w.marks c false ≡ true

abbrev pub Off : Walk → ℕ → Type 0
Off w c = slice_index_or w.marks c false ≡ false

-- how many cells are not marked
abbrev pub missing : Walk → ℕ
missing w = unmarked w.marks (length w.colours.now)

-- how many are on the stack
abbrev pub waiting : Walk → ℕ
waiting w = length w.stack.items

-- no cell is marked, and none is on the stack
pub record Fresh (cs : List ℕ) (w : Walk) : Type 0 where
  pub colours : w.colours.now ≡ cs
  pub marks : w.marks ≡ replicate 4096 false
  pub stack : w.stack.items ≡ []

-- v, a cell in use that was not marked, is marked and on the stack
pub record Added (w : Walk) (v : ℕ) (w' : Walk) : Type 0 where
  pub used : Used w v
  pub fresh : Off w v
  pub colours : w'.colours ≡ w.colours
  pub marks : w'.marks ≡ slice_set w.marks v true
  pub stack : w'.stack.items ≡ w.stack.items ++ v ∷ []

-- v is marked and put on the stack if it is a cell in use that is not marked yet
pub data Pushed (w : Walk) (v : ℕ) : Walk → Type 0 where
  stays : (Used w v → On w v) → Pushed w v w
  new : {w' : Walk} → Added w v w' → Pushed w v w'

-- so is each number of the list
abbrev pub Pushing : Walk → List ℕ → Walk → Type 0
Pushing = FoldsTo Pushed
