-- "Census answers six counts: free, white, gray, black, held, floating. It changes nothing."
use Rattle.std.specs.Prelude.{ℕ, zero, suc, ◌+◌, ◌-◌, ◌*◌, ◌<◌, ◌≡◌, ◌≢◌, ◌⊎◌, List, [], ◌∷◌, ◌++◌, length, eqb, Result, Ok, Err}
use Rattle.machine.specs.Choice.{pick, all, refuse}
use Rattle.machine.specs.Range.{record_ok, row_ok, value_ok, colour_ok}
use Rattle.machine.specs.Parts.{field_of, colour_of, with_colour}
use Rattle.machine.specs.Store.{Store, Outcome, outcome, fits_record}
use Rattle.machine.specs.declared.Row.{Row}
use Rattle.machine.specs.declared.Counts.{Counts}
use Rattle.machine.specs.declared.Refusal.{Refusal}
use Rattle.machine.specs.declared.Refusal.TheVariants.{BadSize, BadNumber}

-- v stands in the list
abbrev pub In : ℕ → List ℕ → Type 0
In v [] = ⊥
In v (x ∷ xs) = (v ≡ x) ⊎ In v xs

-- "cells 0 to g − 1 are the catalogue pages"
unfoldable pub pages : ℕ → List ℕ
pages zero = []
pages (suc g) = g ∷ pages g

-- the slots of all rows
unfoldable pub slots : List Row → List ℕ
slots [] = []
slots (row ∷ rows) = row.slots ++ slots rows

abbrev pub roots : Store → List ℕ
roots st = pages st.rec.g ++ slots st.desk

-- any colour but free; what is no cell reads as free
abbrev pub InUse : Store → ℕ → Type 0
InUse st c = colour_of st.colours c ≢ 0

-- "Held: cells in use reached by fields from pages and slots, on a way that passes through cells in use only."
pub data Held (st : Store) : ℕ → Type 0 where
  root : {c : ℕ} → In c (roots st) → InUse st c → Held st c
  field : {c : ℕ} (x f : ℕ) → Held st x → f < 4 → c ≡ field_of st.fields x f → InUse st c → Held st c

-- "Floating: cells in use not so reached."
abbrev pub Floating : Store → ℕ → Type 0
Floating st c = InUse st c × (Held st c → ⊥)

-- The floating cells, computed: numbers are followed one after the other; one that names a cell still there is reached, so it is
-- taken out of the colours, and its four fields are followed too. `k` bounds the numbers followed. What is left over floats
-- (CensusLaws: held-exact, floating_exact).
abbrev pub fields_of : List ℕ → ℕ → List ℕ
fields_of fields c = field_of fields c 0 ∷ field_of fields c 1 ∷ field_of fields c 2 ∷ field_of fields c 3 ∷ []

unfoldable pub left_over : ℕ → List ℕ → List ℕ → List ℕ → List ℕ
left_over zero fields follow colours = colours
left_over (suc k) fields [] colours = colours
left_over (suc k) fields (v ∷ follow) colours =
    pick (eqb (colour_of colours v) 0) (left_over k fields follow colours)
    (left_over k fields (fields_of fields v ++ follow) (with_colour colours v 0))

-- how many cells have colour b; how many are in use
unfoldable pub tally : ℕ → List ℕ → ℕ
tally b [] = 0
tally b (c ∷ cs) = pick (eqb c b) (suc (tally b cs)) (tally b cs)

unfoldable pub in_use : List ℕ → ℕ
in_use [] = 0
in_use (c ∷ cs) = pick (eqb c 0) (in_use cs) (suc (in_use cs))

unfoldable pub unreached : Store → List ℕ
unreached st = left_over (length (roots st) + 4 * in_use st.colours) st.fields (roots st) st.colours

unfoldable pub counts : Store → Counts
counts st = record {
  free = tally 0 st.colours;
  white = tally 1 st.colours;
  gray = tally 2 st.colours;
  black = tally 3 st.colours;
  held = in_use st.colours - in_use (unreached st);
  floating = in_use (unreached st);
}

-- "refusal 1 comes first, then 2 if anything in the four lent parts is out of range"
unfoldable pub census : Store → Outcome (Result Counts Refusal)
census st =
    refuse (λ k. outcome (Err k) st)
    ((fits_record st, BadSize)
    ∷ (record_ok st.rec, BadNumber)
    ∷ (all (row_ok st.rec.n) st.desk, BadNumber)
    ∷ (all (value_ok st.rec.n) st.fields, BadNumber)
    ∷ (all colour_ok st.colours, BadNumber)
    ∷ [])
    (outcome (Ok (counts st)) st)
