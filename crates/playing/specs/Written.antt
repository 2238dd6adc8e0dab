-- What a part of a run reads and writes, where the reader's and the writer's bytes are known.
use Rattle.std.specs.Prelude.{ℕ, ◌≡◌, List, ◌++◌, Option, IfSome}
use Rattle.std.specs.Io.KnownBytes.{Appends, Consumes}

-- some bytes were written: with what is to be written after them they are what was to be written before, whatever text follows
abbrev pub Written : Option (List ℕ) → Option (List ℕ) → (List ℕ → List ℕ) → (List ℕ → List ℕ) → Type 0
Written old new before after = (w : List ℕ) × Appends old new w × ((rest : List ℕ) → before rest ≡ w ++ after rest)

-- some bytes were read, and what they gave was written
abbrev pub Continues : Option (List ℕ) → Option (List ℕ) → Option (List ℕ) → Option (List ℕ) → (List ℕ → List ℕ) → (List ℕ → List ℕ) → Type 0
Continues left left' old new before after =
    (bs : List ℕ) × Consumes left left' bs × Written old new (λ rest. before (bs ++ rest)) after

-- all that was to be written for the text that was left is written
abbrev pub Finishes : Option (List ℕ) → Option (List ℕ) → Option (List ℕ) → (List ℕ → List ℕ) → Type 0
Finishes left old new before = IfSome left (λ xs. Appends old new (before xs))

-- w begins the text xs
abbrev pub Begins : List ℕ → List ℕ → Type 0
Begins xs w = (more : List ℕ) × (xs ≡ w ++ more)

-- some bytes were written: they begin what was to be written, whatever text follows
abbrev pub WrittenInPart : Option (List ℕ) → Option (List ℕ) → (List ℕ → List ℕ) → Type 0
WrittenInPart old new before = (w : List ℕ) × Appends old new w × ((rest : List ℕ) → Begins (before rest) w)

-- what was written begins what was to be written for the text that was left
abbrev pub FinishesInPart : Option (List ℕ) → Option (List ℕ) → Option (List ℕ) → (List ℕ → List ℕ) → Type 0
FinishesInPart left old new before = IfSome left (λ xs. (w : List ℕ) × Appends old new w × Begins (before xs) w)
