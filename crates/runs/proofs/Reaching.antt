-- What is reachable in the machine's store is what is reached in the store of moves.
use Rattle.std.specs.Prelude.{ℕ, zero, suc, ◌+◌, ◌*◌, ◌≤◌, ◌<◌, ◌≡◌, refl, ◌⊎◌, length, get_or, Some, None, Option}
use Rattle.std.proofs.Common.{sym, ◌∙◌, inl, inr, arith, lt-ltb}
use Rattle.moves.specs.Rows.{job_name}
use Rattle.moves.specs.Invariant.{Inv}
use Rattle.moves.specs.Reach as R
use Rattle.machine.specs.Limits.{none}
use Rattle.machine.specs.Store.{Store}
use Rattle.machine.specs.Machine.{row_of}
use Rattle.machine.specs.declared.Work.TheVariants.{Answering, Storing, Creating}
use Rattle.runs.specs.Abs.{stage_in, abs_job, abs_fields, abs}
use Rattle.runs.specs.Demand3.{carried, Reachable, page, slot, job, field}
use Rattle.machine.specs.declared.Work.{Work}

-- ---- the numbers that a job carries
-- what it carries it names
carried-name : (j : Option Work) (k : ℕ) → k < length (carried j) → get_or (carried j) k none ≡ job_name (abs_job j) k
carried-name None k l = absurd (omega arith)
carried-name (Some (Answering i)) k l = absurd (omega arith)
carried-name (Some (Creating c)) zero l = refl
carried-name (Some (Creating c)) (suc k) l = absurd (omega arith)
carried-name (Some (Storing s p)) zero l = refl
carried-name (Some (Storing s p)) (suc zero) l = refl
carried-name (Some (Storing s p)) (suc (suc zero)) l = refl
carried-name (Some (Storing s p)) (suc (suc (suc k))) l = absurd (omega arith)

abbrev Named : Option Work → ℕ → Type 0
Named j v = (v ≡ none) ⊎ ((i : ℕ) × (i < length (carried j)) × (v ≡ get_or (carried j) i none))

-- what it names it carries, but for none
name-carried : (j : Option Work) (k : ℕ) → Named j (job_name (abs_job j) k)
name-carried None k = inl refl
name-carried (Some (Answering i)) k = inl refl
name-carried (Some (Creating c)) k = inr (0, omega arith, refl)
name-carried (Some (Storing s p)) zero = inr (0, omega arith, refl)
name-carried (Some (Storing s p)) (suc zero) = inr (1, omega arith, refl)
name-carried (Some (Storing s p)) (suc (suc k)) = inr (2, omega arith, refl)

module _ (st : Store) where
  field_is : (x f : ℕ) → f < 4 → get_or st.fields (x * 4 + f) none ≡ abs_fields st.fields x f
  field_is x f b = rw (lt-ltb f 4 b)

  -- one way
  pub reach : {x : ℕ} → Reachable st x → R.Reach (abs st) x
  reach (page p l) = R.page l
  reach (slot w s l b) = R.slot w s l b refl
  reach (job w k l b) = R.name w k l (carried-name (row_of st w).job k b)
  reach (field x f h b) = R.step x f (reach h) b (field_is x f b)

  -- the other way, but for numbers that are no cells
  pub reached : Inv (stage_in st.rec) (abs st) → {v : ℕ} → R.Reach (abs st) v → (st.rec.n ≤ v) ⊎ Reachable st v
  reached I (R.nil e) = inl (omega (arith, I.closed.room))
  reached I (R.page l) = inr (page _ l)
  reached I (R.slot w s l b e) = inr (rw e (slot w s l b))
  reached I (R.name {v = v} w k l e) = go (name-carried (row_of st w).job k)
    where
      go : Named (row_of st w).job (job_name (abs_job (row_of st w).job) k) → (st.rec.n ≤ v) ⊎ Reachable st v
      go (inl q) = inl (omega (arith, I.closed.room, e, q))
      go (inr (i, b, q)) = inr (rw (e ∙ q) (job w i l b))
  reached I (R.step {v = v} x f h b e) = go (reached I h)
    where
      go : (st.rec.n ≤ x) ⊎ Reachable st x → (st.rec.n ≤ v) ⊎ Reachable st v
      go (inl q) = inl (omega (arith, I.closed.room, e, I.tidy.blank x f q b))
      go (inr r) = inr (rw (e ∙ sym (field_is x f b)) (field x f r b))
