-- Next, and a writer's call by its name: each is one move, or changes nothing.
use Rattle.std.specs.Prelude.{ℕ, ◌≡◌, true, Some, None, Option}
use Rattle.std.proofs.Math.Path.{refl}
use Rattle.std.proofs.Common.{inr, ltb-true, leb-true}
use Rattle.machine.specs.ChoiceLaws.{hold, refuse-cases}
use Rattle.machine.specs.Store.{Store}
use Rattle.machine.specs.Range.{stored_ok, made_ok, work_ok, job_ok}
use Rattle.machine.specs.RangeLaws.{sound-row, row-job}
use Rattle.machine.specs.Writer.{next_work, next_job, next, turn_of}
use Rattle.machine.specs.Machine.{row_of, write}
use Rattle.machine.specs.declared.Row.{Row}
use Rattle.machine.specs.declared.Work.TheVariants.{Answering, Storing, Creating}
use Rattle.machine.specs.declared.Call.{Call}
use Rattle.runs.specs.Abs.{Eight, Steps}
use Rattle.runs.proofs.Abs.{fit}
use Rattle.runs.specs.Frame.{Wrote, At}
use Rattle.runs.proofs.Frame.{put_same}
use Rattle.runs.proofs.Slots.{page-moves, copy_moves, drop-moves, read-moves}
use Rattle.runs.proofs.Answering.{answer-moves, answering-moves}
use Rattle.runs.proofs.Storing.{store-moves, storing-moves}
use Rattle.runs.proofs.Creating.{create-moves, creating-moves}
use Rattle.machine.specs.declared.Work.{Work}
use Rattle.machine.specs.declared.Refusal.TheVariants.{NoTurn}

module _ {st : Store} {w : ℕ} (H : At st w) where
  abbrev row : Row
  row = row_of st w

  -- next, by the job
  job-moves : (j : Option Work) → row.job ≡ j → job_ok st.rec.n j ≡ true → Wrote st w (next_job st.rec row st.fields st.colours j)
  unfolding next_job next_work job_ok work_ok stored_ok made_ok
  job-moves None e o = put_same st w NoTurn
  job-moves (Some (Answering k)) e o = answering-moves H k e (leb-true _ _ o)
  job-moves (Some (Storing s p)) e o = let t = hold _ o in storing-moves H s (ltb-true _ _ t.0) (ltb-true _ _ t.1.0) p e
  job-moves (Some (Creating m)) e o = let t = hold _ o in
      creating-moves H m.slot m.cell m.look (ltb-true _ _ t.0) (ltb-true _ _ t.1.0) e

  -- next, after its refusal 2
  next-moves : Wrote st w (next st.rec row st.fields st.colours)
  unfolding next
  next-moves = refuse-cases (Wrote st w) _ _ _ (put_same st w) (λ t.
      job-moves row.job refl (row-job st.rec.n row (sound-row st.rec row t.0)))

  -- the call by its name
  call-moves : (call : Call) → Wrote st w (turn_of st.rec row st.fields st.colours call)
  unfolding turn_of
  call-moves (Call.Page p s) = page-moves H p s
  call-moves (Call.Copy r s) = copy_moves H r s
  call-moves (Call.Drop r) = drop-moves H r
  call-moves (Call.Read r f s) = read-moves H r f s
  call-moves (Call.Store r f q) = store-moves H r f q
  call-moves (Call.Create s) = create-moves H s
  call-moves Call.Answer = answer-moves H
  call-moves Call.Next = next-moves

-- the writer's call, after refusals 1 and 3
pub write_moves : (st : Store) → Eight st.desk → (w : ℕ) (call : Call) → Steps st (write w call st)
unfolding write
write_moves st E w call = refuse-cases (Steps st) _ _ _ (λ k. inr (refl, refl)) (λ t.
    call-moves (record { eight = E; fit = fit st t.0; writer = ltb-true _ _ t.1.0 }) call)
