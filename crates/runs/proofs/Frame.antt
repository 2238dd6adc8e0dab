-- The frame of a writer's turn: its row is put back, with the fields and colours after it.
use Rattle.std.specs.Prelude.{ℕ, ◌<◌, ◌≡◌, true, List, length, get_or, set, Some, None, Option}
use Rattle.std.proofs.Math.Path.{refl, ap}
use Rattle.std.proofs.Common.{◌∙◌, inr, arith, length-set}
use Rattle.std.proofs.lemmas.Bool.{false≢true}
use Rattle.std.proofs.lemmas.List.{set-get_or}
use Rattle.moves.specs.Base.{upd}
use Rattle.moves.specs.Machine as Abstract
use Rattle.machine.specs.Limits.{none}
use Rattle.machine.specs.Store.{Store, fresh_row}
use Rattle.machine.specs.Parts.{with_job}
use Rattle.machine.specs.Turns.{refused, is_idle}
use Rattle.machine.specs.Machine.{row_of}
use Rattle.machine.specs.declared.Row.{Row}
use Rattle.runs.specs.Abs.{abs_job, abs_row, abs_fields, abs, Eight}
use Rattle.runs.proofs.Abs.{any_default, get_or-upd, abs-rows, eight-put}
use Rattle.runs.specs.Frame.{Quiet, At}
use Rattle.machine.specs.declared.Work.{Work}
use Rattle.machine.specs.declared.Refusal.{Refusal}

-- a refusal inside the row's turn puts the row back as it was
pub put_same : (st : Store) (w : ℕ) (k : Refusal) → Quiet st w (refused (row_of st w) k)
put_same st w k =
    inr ((λ i. record { rec = st.rec; desk = set-get_or st.desk w fresh_row i; fields = st.fields; colours = st.colours }), refl)

-- refusal 4's test as a fact
pub idle_is : (j : Option Work) → is_idle j ≡ true → j ≡ None
idle_is None e = refl
idle_is (Some w) e = absurd (false≢true e)

module _ {st : Store} {w : ℕ} (H : At st w) where
  abbrev row : Row
  row = row_of st w

  -- the row is one of the desk
  pub in_desk : w < length st.desk
  in_desk = omega (arith, H.writer, H.fit.desk)

  -- the row and the colours change
  pub put-row : (c : ℕ → ℕ) (colours : List ℕ) (r : Row) → (λ (j : ℕ). get_or colours j 3) ≡ c
      → abs (record { rec = st.rec; desk = set st.desk w r; fields = st.fields; colours = colours })
      ≡ record { N = st.rec.n; g = st.rec.g; M = st.rec.m; count = st.rec.count; colour = c; field = abs_fields st.fields; rows = upd (λ u. abs_row (row_of st u)) w (abs_row r) }
  put-row c colours r e = λ i. record {
    N = st.rec.n;
    g = st.rec.g;
    M = st.rec.m;
    count = st.rec.count;
    colour = e i;
    field = abs_fields st.fields;
    rows = abs-rows st.desk w r in_desk i;
  }

  -- the job alone changes
  pub put-job : (j : Option Work) (k : Abstract.Job) → abs_job j ≡ k
      → abs (record { rec = st.rec; desk = set st.desk w (with_job row j); fields = st.fields; colours = st.colours }) ≡ Abstract.set_job (abs st) w k
  unfolding with_job
  put-job j k e = put-row _ st.colours _ refl ∙ ap (λ j. Abstract.set_job (abs st) w j) e

  -- and the row keeps its eight slots
  pub job-eight : (j : Option Work) → Eight (set st.desk w (with_job row j))
  unfolding with_job
  job-eight j = eight-put st.desk w _ H.eight (H.eight w)

  -- a slot, as the machine reads it; one slot changes
  pub slot_at : (k : ℕ) → k < 8 → get_or row.slots k 0 ≡ get_or row.slots k none
  slot_at k l = any_default row.slots k 0 none (omega (arith, H.eight w))

  pub slot-set : (k v : ℕ) → k < 8 → (λ (j : ℕ). get_or (set row.slots k v) j none) ≡ upd (λ j. get_or row.slots j none) k v
  slot-set k v l = get_or-upd row.slots k v none (omega (arith, H.eight w))

  pub slot-eight : (k v : ℕ) → length (set row.slots k v) ≡ 8
  slot-eight k v = length-set row.slots k v ∙ H.eight w
