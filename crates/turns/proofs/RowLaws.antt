-- A row in range is told by its words as they are: what did not fit, and what names no job, is out of range.
use Rattle.std.specs.Prelude.{◌≡◌, ℕ, zero, suc, ◌<◌, ◌≤◌, true, List, ◌∷◌, ◌==◌, slice_index}
use Rattle.std.specs.Prelude.{refl}
use Rattle.std.proofs.lemmas.Bool.{false≢true}
use Rattle.std.proofs.Common.{arith}
use Rattle.std.proofs.Math.Decide.{dec_lt}
use borrow.Author.Tests.{lt-ltb, le-ltb, ltb-true, leb-true, ne_eqb}
use Rattle.machine.specs.Choice.{pick}
use Rattle.machine.specs.ChoiceLaws.{hold}
use Rattle.machine.specs.Range.{status_ok, stored_ok, made_ok, work_ok, job_ok, row_ok}
use Rattle.turns.specs.declared.plain.Task.{Task}
use Rattle.turns.specs.Plain.{byte_of, plan_of, look_of, task_with, storing_of, creating_of, job_of, plan_number, look_number, work_task, task_of, task_words, row_of, words_of}
use Rattle.turns.proofs.PlainLaws.{byte_exact}

plan_exact : (step : ℕ) → step < 8 → plan_number (plan_of step) ≡ step
unfolding plan_of plan_number
plan_exact zero h = refl
plan_exact (suc zero) h = refl
plan_exact (suc (suc zero)) h = refl
plan_exact (suc (suc (suc zero))) h = refl
plan_exact (suc (suc (suc (suc zero)))) h = refl
plan_exact (suc (suc (suc (suc (suc zero))))) h = refl
plan_exact (suc (suc (suc (suc (suc (suc zero)))))) h = refl
plan_exact (suc (suc (suc (suc (suc (suc (suc zero))))))) h = refl
plan_exact (suc (suc (suc (suc (suc (suc (suc (suc k)))))))) h = absurd (omega arith)

look-exact : (step : ℕ) → step < 3 → look_number (look_of step) ≡ step
unfolding look_of look_number
look-exact zero h = refl
look-exact (suc zero) h = refl
look-exact (suc (suc zero)) h = refl
look-exact (suc (suc (suc k))) h = absurd (omega arith)

-- the words of a job that it uses, and 0 for the others
unfoldable pub used : Task → Task
used t =
    pick (t.kind == 0) (task_with 0 0 0 0 0 0)
    (pick (t.kind == 1) (task_with 1 t.step 0 0 0 0)
    (pick (t.kind == 2) t (task_with t.kind t.step t.cell t.at 0 0)))

module _ (n step cell at fresh old : ℕ) where
  storing-exact : job_ok n (storing_of (task_with 2 step cell at fresh old)) ≡ true → task_of (storing_of (task_with 2 step cell at fresh old)) ≡ task_with 2 step cell at fresh old
  unfolding storing_of job_ok work_ok stored_ok task_of work_task
  storing-exact e = go (dec_lt step 8)
    where
      go : Dec (step < 8) → task_of (storing_of (task_with 2 step cell at fresh old)) ≡ task_with 2 step cell at fresh old
      go (yes l) =
          let k = hold _ (rw (lt-ltb step 8 l, storing_of, job_ok, work_ok, stored_ok) at e) in
          rw (lt-ltb step 8 l, storing_of, task_of, work_task) (rw (plan_exact step l, byte_exact at (omega (arith, ltb-true (byte_of at) 4 k.1.0))) refl)
      go (no l) = absurd (false≢true (rw (le-ltb step 8 (omega arith), storing_of, job_ok, work_ok) at e))

  creating-exact : job_ok n (creating_of (task_with 3 step cell at fresh old)) ≡ true → task_of (creating_of (task_with 3 step cell at fresh old)) ≡ task_with 3 step cell at 0 0
  unfolding creating_of job_ok work_ok made_ok task_of work_task
  creating-exact e = go (dec_lt step 3)
    where
      go : Dec (step < 3) → task_of (creating_of (task_with 3 step cell at fresh old)) ≡ task_with 3 step cell at 0 0
      go (yes l) =
          let k = hold _ (rw (lt-ltb step 3 l, creating_of, job_ok, work_ok, made_ok) at e) in
          rw (lt-ltb step 3 l, creating_of, task_of, work_task) (rw (look-exact step l, byte_exact at (omega (arith, ltb-true (byte_of at) 8 k.0))) refl)
      go (no l) = absurd (false≢true (rw (le-ltb step 3 (omega arith), creating_of, job_ok, work_ok) at e))

pub job-exact : (n kind step cell at fresh old : ℕ) → job_ok n (job_of (task_with kind step cell at fresh old)) ≡ true
    → task_of (job_of (task_with kind step cell at fresh old)) ≡ used (task_with kind step cell at fresh old)
unfolding job_of used task_of work_task job_ok work_ok
job-exact n zero step cell at fresh old e = refl
job-exact n (suc zero) step cell at fresh old e = let h : byte_of step ≤ 8 = leb-true _ _ e in rw (byte_exact step (omega arith)) refl
job-exact n (suc (suc zero)) step cell at fresh old e = storing-exact n step cell at fresh old e
job-exact n (suc (suc (suc zero))) step cell at fresh old e = creating-exact n step cell at fresh old e
job-exact n (suc (suc (suc (suc k)))) step cell at fresh old e =
    absurd (false≢true (rw (ne_eqb (suc (suc (suc (suc k)))) 0 (λ q. omega arith), ne_eqb (suc (suc (suc (suc k)))) 1 (λ q. omega arith), ne_eqb (suc (suc (suc (suc k)))) 2 (λ q. omega arith), ne_eqb (suc (suc (suc (suc k)))) 3 (λ q. omega arith), job_of, job_ok, work_ok) at e))

-- the row that is written back has the same words, and 0 where the job uses none
pub row-exact : (n : ℕ) (words : List ℕ) → row_ok n (row_of words) ≡ true
    → words_of (row_of words)
    ≡ slice_index words 0 ∷ slice_index words 1 ∷ slice_index words 2 ∷ slice_index words 3 ∷ slice_index words 4 ∷ slice_index words 5 ∷ slice_index words 6 ∷ slice_index words 7 ∷ slice_index words 8
    ∷ task_words (used (task_with (slice_index words 9) (slice_index words 10) (slice_index words 11) (slice_index words 12) (slice_index words 13) (slice_index words 14)))
unfolding row_of words_of row_ok status_ok
row-exact n words e =
    let k = hold _ e in
    let s : byte_of (slice_index words 0) ≤ 2 = leb-true _ _ k.0 in
    rw (byte_exact (slice_index words 0) (omega arith), job-exact n (slice_index words 9) (slice_index words 10) (slice_index words 11) (slice_index words 12) (slice_index words 13) (slice_index words 14) k.1.1.0) refl
