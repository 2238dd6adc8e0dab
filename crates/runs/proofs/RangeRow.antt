-- The frame of a writer's turn on a store in range: a row in range is put back.
use Rattle.std.specs.Prelude.{ℕ, ◌+◌, ◌*◌, ◌≤◌, ◌<◌, ◌≡◌, refl, true, List, leb, length, get_or, set, None, Option}
use Rattle.std.proofs.Common.{ap, arith, length-set}
use Rattle.std.proofs.Math.Decide.{dec_lt}
use Rattle.std.proofs.Math.ListN.{get_or-eq_default}
use Rattle.std.proofs.lemmas.List.{set-get_or}
use borrow.Author.Tests.{leb-true}
use Rattle.machine.specs.Choice.{all}
use Rattle.machine.specs.ChoiceLaws.{hold, all-at, all_from, held}
use Rattle.machine.specs.Limits.{none, limits_ok, sizes_ok}
use Rattle.machine.specs.Store.{Store, fresh_row, fits}
use Rattle.machine.specs.Range.{value_ok, status_ok, job_ok, row_ok}
use Rattle.machine.specs.RangeLaws.{row-slot}
use Rattle.machine.specs.Parts.{slot_of, field_of, with_status, with_slot, with_job}
use Rattle.machine.specs.Turns.{refused, written, sound_ok}
use Rattle.machine.specs.Gray.{grayed}
use Rattle.machine.specs.Machine.{row_of}
use Rattle.machine.specs.declared.Row.{Row}
use Rattle.runs.proofs.Abs.{set_all}
use Rattle.runs.specs.Range.{Values, Colours, Mild}
use Rattle.runs.proofs.Range.{record_ok_lem, value-at, grayed_in, grayed-length}
use Rattle.runs.specs.RangeRow.{Sound, FineRow, FineQuiet}
use Rattle.machine.specs.declared.Work.{Work}
use Rattle.machine.specs.Answer.{Answered}
use Rattle.machine.specs.Answer.{number}
use Rattle.machine.specs.declared.Refusal.{Refusal}

-- each value of a list in range, none past its end
all-value : (n : ℕ) (l : List ℕ) → all (value_ok n) l ≡ true → Values n l
unfolding value_ok
all-value n l h i = go (dec_lt i (length l))
  where
    go : Dec (i < length l) → value_ok n (get_or l i none) ≡ true
    go (yes b) = all-at (value_ok n) l i none h b
    go (no b) = ap (value_ok n) (get_or-eq_default l none {n = i} (omega arith))

-- a slot changes to a value in range
slots_set : (n : ℕ) (l : List ℕ) (i v : ℕ) → all (value_ok n) l ≡ true → value_ok n v ≡ true → all (value_ok n) (set l i v) ≡ true
slots_set n l i v h e = all_from (value_ok n) none (set l i v) (set_all (λ x. value_ok n x ≡ true) l i v none (all-value n l h) e)

-- a row whose job is over
pub with_idle : (n : ℕ) (q : Row) → row_ok n q ≡ true → row_ok n (with_job q None) ≡ true
unfolding row_ok with_job status_ok job_ok
with_idle n q e = let t = hold _ e in held _ (t.0, (t.1.0, (refl, tt)))

module _ {st : Store} {w : ℕ} (S : Sound st w) where
  abbrev n : ℕ
  n = st.rec.n

  abbrev row : Row
  row = row_of st w

  -- a refusal from 3 on
  pub same : (k : Refusal) → 3 ≤ number k → FineQuiet st w (refused row k)
  same k l = record { mild = l; after = rw (set-get_or st.desk w fresh_row) S.range }

  -- a row in range is put back, with fields and colours in range
  pub put : (a : Answered) (r : Row) (fs cs : List ℕ) → Mild a → row_ok n r ≡ true → Values n fs → length fs ≡ length st.fields
      → Colours cs → length cs ≡ length st.colours → FineRow st w (written (record { answer = a; row = r }) fs cs)
  unfolding fits
  put a r fs cs ok e v lv c lc = record {
    mild = ok;
    after = record {
      sizes = rw (length-set st.desk w r, lv, lc, fits) S.range.sizes;
      numbers = S.range.numbers;
      rows = set_all (λ (q : Row). row_ok n q ≡ true) st.desk w r fresh_row S.range.rows e;
      fields = v;
      colours = c;
    };
  }

  -- the row alone
  pub put_quiet : (a : Answered) (r : Row) → Mild a → row_ok n r ≡ true → FineQuiet st w (record { answer = a; row = r })
  put_quiet a r ok e = put a r st.fields st.colours ok e S.range.fields refl S.range.colours refl

  -- the row, and a number grayed
  pub put-gray : (a : Answered) (r : Row) (v : ℕ) → Mild a → row_ok n r ≡ true
      → FineRow st w (written (record { answer = a; row = r }) st.fields (grayed st.colours v))
  put-gray a r v ok e = put a r st.fields (grayed st.colours v) ok e S.range.fields refl (grayed_in st.colours v S.range.colours) (grayed-length st.colours v)

  -- ---- rows in range
  -- refusal 2's test for the record and the row
  pub sound : sound_ok st.rec row ≡ true
  unfolding sound_ok
  sound = held _ (record_ok_lem st.rec S.range.numbers S.count, (S.range.rows w, tt))

  -- a slot that the machine reads
  pub slot_ok : (s : ℕ) → s < 8 → value_ok n (slot_of row s) ≡ true
  slot_ok s l = row-slot n row s (S.range.rows w) (omega (arith, S.at.eight w))

  -- the row with a job, a slot or a status in range
  pub with_job_lem : (j : Option Work) → job_ok n j ≡ true → row_ok n (with_job row j) ≡ true
  unfolding row_ok with_job status_ok
  with_job_lem j e = let t = hold _ (S.range.rows w) in held _ (t.0, (t.1.0, (e, tt)))

  pub with_slot_lem : (s v : ℕ) → value_ok n v ≡ true → row_ok n (with_slot row s v) ≡ true
  unfolding row_ok with_slot status_ok
  with_slot_lem s v e = let t = hold _ (S.range.rows w) in held _ (t.0, (slots_set n row.slots s v t.1.0 e, (t.1.1.0, tt)))

  pub with_status_lem : (u : ℕ) → leb u 2 ≡ true → row_ok n (with_status row u) ≡ true
  unfolding row_ok with_status status_ok
  with_status_lem u e = let t = hold _ (S.range.rows w) in held _ (e, (t.1.0, (t.1.1.0, tt)))

  -- the fields of a cell
  pub field_ok : (c f : ℕ) → c < n → f < 4 → value_ok n (field_of st.fields c f) ≡ true
  field_ok c f l d = value-at n st.fields (c * 4 + f) S.range.fields (omega (arith, S.at.fit.fields))

  -- a page is a cell
  pub pages : st.rec.g ≤ n
  unfolding fits sizes_ok limits_ok
  pages = leb-true _ _ (hold _ (hold _ S.range.sizes).0).1.1.1.1.0
