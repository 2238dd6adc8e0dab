-- Page, copy, drop and read: each puts a number that the writer may know into a slot.
use Rattle.std.specs.Prelude.{ℕ, ◌<◌, ◌≡◌, true}
use Rattle.std.proofs.Math.Path.{refl, ap}
use Rattle.std.proofs.Common.{◌∙◌, arith}
use Rattle.std.proofs.Math.Logic.{inl}
use borrow.Author.Tests.{ltb-true, eqb-false, not-true}
use Rattle.moves.specs.Machine as Abstract
use Rattle.moves.specs.Writing as Writing
use Rattle.moves.specs.Moves.{by-writer}
use Rattle.machine.specs.ChoiceLaws.{refuse-cases}
use Rattle.machine.specs.Limits.{none}
use Rattle.machine.specs.Store.{Store}
use Rattle.machine.specs.RangeLaws.{value_cell, sound-row, row-slot}
use Rattle.machine.specs.Parts.{slot_of, with_slot}
use Rattle.machine.specs.Turns.{done, is_idle}
use Rattle.machine.specs.Slots.{page, copy, drop, read_cell, read}
use Rattle.machine.specs.Machine.{row_of}
use Rattle.machine.specs.declared.Row.{Row}
use Rattle.runs.specs.Abs.{abs_job, abs_row, abs}
use Rattle.runs.proofs.Abs.{field_in, eight-put}
use Rattle.runs.specs.Frame.{Quiet, At}
use Rattle.runs.proofs.Frame.{put_same, idle_is, put-row, slot_at, slot-set, slot-eight}

module _ {st : Store} {w : ℕ} (H : At st w) where
  abbrev row : Row
  row = row_of st w

  -- a number that the writer may know goes to a slot
  slot-moves : (s v : ℕ) → s < 8 → is_idle row.job ≡ true → Writing.Known (abs st) (abs_row row) v → Quiet st w (done (with_slot row s v))
  unfolding with_slot
  slot-moves s v b e k = inl (
    by-writer (Writing.load w s v H.writer (ap abs_job (idle_is row.job e)) k),
    put-row H _ st.colours _ refl ∙ ap (λ f. Abstract.set_row (abs st) w (record { status = row.status; slots = f; job = abs_job row.job })) (slot-set H s v b),
    refl,
    refl,
    eight-put st.desk w _ H.eight (slot-eight H s v),
  )

  -- the four calls, after their refusals
  pub page-moves : (p s : ℕ) → Quiet st w (page st.rec row p s)
  unfolding page
  page-moves p s = refuse-cases (Quiet st w) _ _ _ (put_same st w) (λ t.
      slot-moves s p (ltb-true _ _ t.1.0) t.1.1.1.0 (Writing.page (ltb-true _ _ t.0)))

  pub copy_moves : (r s : ℕ) → Quiet st w (copy st.rec row r s)
  unfolding copy
  copy_moves r s = refuse-cases (Quiet st w) _ _ _ (put_same st w) (λ t.
      let b : r < 8 = ltb-true _ _ t.0 in
      slot-moves s _ (ltb-true _ _ t.1.0) t.1.1.1.0 (rw (slot_at H r b) (Writing.copy r b)))

  pub drop-moves : (r : ℕ) → Quiet st w (drop st.rec row r)
  unfolding drop
  drop-moves r = refuse-cases (Quiet st w) _ _ _ (put_same st w) (λ t.
      slot-moves r none (ltb-true _ _ t.0) t.1.1.0 Writing.drop)

  pub read-moves : (r f s : ℕ) → Quiet st w (read st.rec row st.fields r f s)
  unfolding read read_cell
  read-moves r f s = refuse-cases (Quiet st w) _ _ _ (put_same st w) (λ t. refuse-cases (Quiet st w) _ _ _ (put_same st w) (λ u.
      let b : r < 8 = ltb-true _ _ t.0 in
      let d : f < 4 = ltb-true _ _ t.1.1.0 in
      let x = slot_of row r in
      let v = row-slot st.rec.n row r (sound-row st.rec row t.1.1.1.0) (omega (arith, H.eight w)) in
      let c : x < st.rec.n = value_cell st.rec.n x v (eqb-false x none (not-true _ t.1.1.1.1.1.0)) in
      slot-moves s _ (ltb-true _ _ t.1.0) t.1.1.1.1.0
      (rw (field_in st.fields x f d (omega (arith, H.fit.fields)), slot_at H r b) (Writing.read r f b d))))
