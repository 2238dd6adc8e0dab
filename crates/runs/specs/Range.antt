-- A store in range, and an outcome with neither refusal 1 nor 2, in range.
use Rattle.std.specs.Prelude.{ℕ, ◌≤◌, ◌≡◌, Bool, true, List, [], ◌∷◌, leb, get_or, Err, Ok}
use Rattle.machine.specs.ChoiceLaws.{Hold}
use Rattle.machine.specs.Limits.{none}
use Rattle.machine.specs.Store.{Store, Outcome, fits_record}
use Rattle.machine.specs.Range.{place_ok, part_ok, value_ok, hold_ok, found_ok, colour_ok, row_ok}
use Rattle.machine.specs.Machine.{row_of}
use Rattle.machine.specs.declared.Record.{Record}
use Rattle.machine.specs.Answer.{Answered}
use Rattle.machine.specs.declared.Answer.TheVariants.{Done, More, Worked, Waited}
use Rattle.machine.specs.Answer.{number}

-- ---- a store in range
-- the record's tests, but for the count
abbrev pub numbers_ok : Record → List Bool
numbers_ok rec = leb rec.stage 5 ∷ place_ok rec ∷ part_ok rec ∷ hold_ok rec ∷ found_ok rec ∷ []

-- each field; each colour
abbrev pub Values : ℕ → List ℕ → Type 0
Values n l = (i : ℕ) → value_ok n (get_or l i none) ≡ true

abbrev pub Colours : List ℕ → Type 0
Colours l = (i : ℕ) → colour_ok (get_or l i 3) ≡ true

-- the whole store
pub record InRange (st : Store) : Type 0 where
  pub sizes : fits_record st ≡ true
  pub numbers : Hold (numbers_ok st.rec)
  pub rows : (w : ℕ) → row_ok st.rec.n (row_of st w) ≡ true
  pub fields : Values st.rec.n st.fields
  pub colours : Colours st.colours

-- ---- an outcome with neither refusal 1 nor 2, in range
-- no refusal, or one from 3 on
abbrev pub Mild : Answered → Type 0
Mild (Ok Done) = Unit {0}
Mild (Ok More) = Unit {0}
Mild (Ok Worked) = Unit {0}
Mild (Ok Waited) = Unit {0}
Mild (Err k) = 3 ≤ number k

-- such an answer, and a store in range
pub record Fine (o : Outcome Answered) : Type 0 where
  pub mild : Mild o.answer
  pub after : InRange o.store
