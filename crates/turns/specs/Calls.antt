-- What each exported call does: the machine's call on the store that the plain numbers tell, and the numbers after it.
use Rattle.std.specs.Prelude.{◌≡◌, ℕ, ◌%◌, Bool, List, [], ◌∷◌, length, ◌==◌, slice_index_or, Result, Ok, Err}
use Rattle.machine.specs.Choice.{pick, every, refuse}
use Rattle.machine.specs.Store.{Store, Outcome, parts, fresh_row, start}
use Rattle.machine.specs.Census.{census}
use Rattle.machine.specs.Machine.{write, collect}
use Rattle.machine.specs.declared.Call.{Call}
use Rattle.machine.specs.Answer.{Answered, number}
use Rattle.machine.specs.declared.Counts.{Counts}
use Rattle.machine.specs.declared.Refusal.{Refusal}
use Rattle.machine.specs.declared.Refusal.TheVariants.{BadSize}
use Rattle.turns.specs.Plain.{record_of, numbers_of, desk_of, row_words, with_row, answer_number, is_refused}

-- the lent parts: the record's numbers, the desk's words, the fields and the colours
pub record Lent : Type 0 where
  pub numbers : List ℕ
  pub desk : List ℕ
  pub fields : List ℕ
  pub colours : List ℕ

abbrev pub lent : List ℕ → List ℕ → List ℕ → List ℕ → Lent
lent numbers desk fields colours = record { numbers = numbers; desk = desk; fields = fields; colours = colours }

-- the store that they tell
abbrev pub store_of : Lent → Store
store_of p = parts (record_of p.numbers) (desk_of p.desk) p.fields p.colours

-- a record of nine numbers and whole rows
unfoldable pub shaped : ℕ → ℕ → Bool
shaped numbers words = every ((numbers == 9) ∷ (words % 16 == 0) ∷ [])

-- the same as facts
pub record Shaped (numbers words : ℕ) : Type 0 where
  pub nine : numbers ≡ 9
  pub whole : words % 16 ≡ 0

-- a call's answer, as a number, and the lent parts after it
pub record Reply : Type 0 where
  pub answer : ℕ
  pub after : Lent

abbrev pub result_of : ℕ → Lent → Reply
result_of answer after = record { answer = answer; after = after }

-- "A refusal returns its number and nothing else changes."
unfoldable pub ended : Lent → Lent → Answered → Reply
ended before after a = result_of (answer_number a) (pick (is_refused a) before after)

-- one of the machine's calls; `put` writes what the machine's store is after it
unfoldable pub made : (Store → Outcome Answered) → (Lent → Store → Lent) → Lent → Reply
made call put p = ended p (put p (call (store_of p)).store) (call (store_of p)).answer

-- the same, where the shape fits
unfoldable pub called : (Store → Outcome Answered) → (Lent → Store → Lent) → Lent → Reply
called call put p =
    refuse (λ k. result_of (number k) p) ((shaped (length p.numbers) (length p.desk), BadSize) ∷ []) (made call put p)

-- start: the record and every row are written
abbrev pub all_after : Lent → Store → Lent
all_after p st = lent (numbers_of st.rec) (row_words st.desk) st.fields st.colours

abbrev pub start_by : ℕ → ℕ → ℕ → Lent → Reply
start_by n g m = called (start n g m) all_after

-- a call of writer w: row w is written, and the other rows' words stay
abbrev pub row_after : ℕ → Lent → Store → Lent
row_after w p st =
    lent p.numbers (with_row p.desk w (slice_index_or st.desk w fresh_row)) st.fields st.colours

abbrev pub write_by : ℕ → Call → Lent → Reply
write_by w call = called (write w call) (row_after w)

-- the collector's call: the record is written, and the desk's words stay
abbrev pub record_after : Lent → Store → Lent
record_after p st = lent (numbers_of st.rec) p.desk st.fields st.colours

abbrev pub collect_by : Lent → Reply
collect_by = called collect record_after

-- the census: its answer and the counts after it; it changes nothing else
pub record Told : Type 0 where
  pub answer : ℕ
  pub counts : List ℕ

abbrev pub counted : ℕ → List ℕ → Told
counted answer counts = record { answer = answer; counts = counts }

-- the six counts are written (free, white, gray, black, held, floating), or left
unfoldable pub told : List ℕ → Result Counts Refusal → Told
told counts (Ok c) =
    counted 100 (c.free ∷ c.white ∷ c.gray ∷ c.black ∷ c.held ∷ c.floating ∷ [])
told counts (Err k) = counted (number k) counts

-- the machine's census, where the shape fits and there are six counts
unfoldable pub census_by : Lent → List ℕ → Told
census_by p counts =
    refuse (λ k. counted (number k) counts)
    ((shaped (length p.numbers) (length p.desk), BadSize) ∷ ((length counts == 6), BadSize) ∷ [])
    (told counts (census (store_of p)).answer)
