-- What a row that was tested in range gives the turns: each number that they index by lies within what is lent.
use Rattle.std.specs.Prelude.{ℕ, ◌+◌, ◌*◌, ◌<◌, ◌≡◌, refl, ◌⊎◌, Bool, true, false, List, [], ◌∷◌, length, get_or, eqb, Some, Result, Ok, Err}
use Rattle.std.proofs.Common.{inl, inr, ⊎_elim, arith, ltb-true}
use Rattle.machine.specs.Choice.{pick, refuse}
use Rattle.machine.specs.ChoiceLaws.{hold}
use Rattle.machine.specs.Limits.{none}
use Rattle.machine.specs.Range.{colour_ok, stored_ok, made_ok}
use Rattle.machine.specs.RangeLaws.{value_cell, sound-row, row-slot, row-job, job-stored, job-made}
use Rattle.machine.specs.Turns.{admitted, is_idle, sound_ok}
use Rattle.machine.specs.Creating.{lowest_free}
use Rattle.machine.specs.declared.Record.{Record}
use Rattle.machine.specs.declared.Row.{Row}
use Rattle.machine.specs.declared.Stored.{Stored}
use Rattle.machine.specs.declared.Plan.{Plan}
use Rattle.machine.specs.declared.Made.{Made}
use Rattle.machine.specs.declared.Refusal.{Refusal}
use Rattle.machine.specs.declared.Refusal.TheVariants.{BadNumber, Busy}
use Rattle.machine.specs.declared.Work.TheVariants.{Storing, Creating}
use Rattle.cells.specs.Sized.{Sized}

module _ (rec : Record) (row : Row) where
  -- a row that was admitted is in range
  pub admitted_sound : ◌≡◌ {A = Result (Unit {0}) Refusal} (refuse Err (admitted rec row []) (Ok tt)) (Ok tt) → sound_ok rec row ≡ true
  unfolding refuse
  admitted_sound e = go (sound_ok rec row) e
    where
      go : (b : Bool) → ◌≡◌ {A = Result (Unit {0}) Refusal} (pick b (refuse Err ((is_idle row.job, Busy) ∷ []) (Ok tt)) (Err BadNumber)) (Ok tt) → b ≡ true
      go true e = refl
      go false e = let z : ◌≡◌ {A = ℕ} 0 1 = cc in absurd (omega arith)

  -- the fields of the cell in a filled slot
  pub field_in : (fields : List ℕ) (r f : ℕ) → sound_ok rec row ≡ true → r < length row.slots → (get_or row.slots r 0 ≡ none → ⊥) → f < 4 → rec.n * 4 ≡ length fields → get_or row.slots r 0 * 4 + f < length fields
  field_in fields r f t h q k e =
      let a = value_cell rec.n (get_or row.slots r 0) (row-slot rec.n row r (sound-row rec row t) h) q in
      omega arith

  -- the field that a store writes
  pub stored_in : (fields colours : List ℕ) (s : Stored) (p : Plan) → sound_ok rec row ≡ true → row.job ≡ Some (Storing s p) → Sized rec.n fields colours → s.cell * 4 + s.field < length fields
  unfolding stored_ok
  stored_in fields colours s p t j l =
      let h = hold _ (job-stored rec.n row.job (Storing s p) s p (row-job rec.n row (sound-row rec row t)) j refl) in
      let a = ltb-true s.cell rec.n h.0 in
      let b = ltb-true s.field 4 h.1.0 in
      omega arith

  -- the cell and the slot of a creation
  pub made_in : (fields colours : List ℕ) (m : Made) → sound_ok rec row ≡ true → row.job ≡ Some (Creating m) → Sized rec.n fields colours → (m.cell < length colours) × (m.slot < 8)
  unfolding made_ok
  made_in fields colours m t j l =
      let h = hold _ (job-made rec.n row.job (Creating m) m (row-job rec.n row (sound-row rec row t)) j refl) in
      let a = ltb-true m.slot 8 h.0 in
      let b = ltb-true m.cell rec.n h.1.0 in
      (omega arith, a)

-- the cell that was found is a cell
free-pick : (t : Bool) (a b : Result ℕ Refusal) (c : ℕ) → pick t a b ≡ Ok c → (a ≡ Ok c) ⊎ (b ≡ Ok c)
free-pick true a b c e = inl e
free-pick false a b c e = inr e

free-below : (i : ℕ) (l : List ℕ) (c : ℕ) → lowest_free i l ≡ Ok c → c < i + length l
unfolding lowest_free
free-below i [] c e = let z : ◌≡◌ {A = ℕ} 0 1 = cc in absurd (omega arith)
free-below i (b ∷ bs) c e =
    ⊎_elim (λ p. let q : i ≡ c = cc in omega arith)
    (λ p. ⊎_elim (λ q. let h = free-below (i + 1) bs c q in omega arith)
    (λ q. let z : ◌≡◌ {A = ℕ} 0 1 = cc in absurd (omega arith))
    (free-pick (colour_ok b) (lowest_free (i + 1) bs) (Err BadNumber) c p))
    (free-pick (eqb b 0) (Ok i) (pick (colour_ok b) (lowest_free (i + 1) bs) (Err BadNumber)) c e)

pub free_in : (n : ℕ) (f l : List ℕ) (c : ℕ) → Sized n f l → lowest_free 0 l ≡ Ok c → c < n
free_in n f l c z q = let h = free-below 0 l c q in omega arith
