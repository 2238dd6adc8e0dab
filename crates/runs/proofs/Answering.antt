-- Answer, and the turns of its job.
use Prim.Native.Nat.{ℕ, zero, suc, ◌+◌, ◌≤◌, ◌<◌}
use Rattle.std.specs.Prelude.{◌≡◌, ◌≢◌, eqb, Some, None}
use Rattle.std.proofs.Math.Path.{refl}
use Rattle.std.proofs.Common.{sym, ◌∙◌, ap, inl, arith, lt-ltb, le-ltb, eq-eqb, ne_eqb}
use Rattle.std.proofs.Math.Decide.{dec_lt, ℕ_discrete}
use Rattle.std.proofs.lemmas.Bool.{eqb-false, not-true}
use Rattle.moves.specs.Machine as Abstract
use Rattle.moves.specs.Writing as Writing
use Rattle.moves.specs.Moves.{by-writer}
use Rattle.machine.specs.ChoiceLaws.{refuse-cases}
use Rattle.machine.specs.Choice.{pick}
use Rattle.machine.specs.Stage.{posted}
use Rattle.machine.specs.Store.{Store}
use Rattle.machine.specs.Parts.{slot_of, with_status, with_job}
use Rattle.machine.specs.Turns.{done, more, written}
use Rattle.machine.specs.Gray.{grayed}
use Rattle.machine.specs.Answering.{answer_to, answer, next_answering}
use Rattle.machine.specs.Machine.{row_of}
use Rattle.machine.specs.declared.Row.{Row}
use Rattle.machine.specs.declared.Work.TheVariants.{Answering}
use Rattle.runs.specs.Abs.{stage_at, stage_in, abs_job, abs_row, abs}
use Rattle.runs.proofs.Abs.{abs-grayed, eight-put}
use Rattle.runs.specs.Frame.{Wrote, Quiet, At}
use Rattle.runs.proofs.Frame.{put_same, idle_is, put-row, put-job, job-eight, slot_at}

-- the posted number of a stage
posted-abs : (st p k h f : ℕ) → posted st ≡ Abstract.posted (stage_at st p k h f)
unfolding posted
posted-abs zero p k h f = refl
posted-abs (suc zero) p k h f = refl
posted-abs (suc (suc zero)) p k h f = refl
posted-abs (suc (suc (suc zero))) p k h f = refl
posted-abs (suc (suc (suc (suc zero)))) p k h f = refl
posted-abs (suc (suc (suc (suc (suc i))))) p k h f =
    rw (ne_eqb (suc (suc (suc (suc (suc i))))) 1 (omega arith), ne_eqb (suc (suc (suc (suc (suc i))))) 2 (omega arith), posted)

module _ {st : Store} {w : ℕ} (H : At st w) where
  abbrev row : Row
  row = row_of st w

  -- answer, after its refusals
  pub answer-moves : Quiet st w (answer st.rec row)
  unfolding answer answer_to with_status
  answer-moves = refuse-cases (Quiet st w) _ _ _ (put_same st w) (λ t. refuse-cases (Quiet st w) _ _ _ (put_same st w) (λ u.
      go (idle_is row.job t.1.0) (eqb-false row.status _ (not-true _ u.0)) (ℕ_discrete number 0)))
    where
      number : ℕ
      number = posted st.rec.stage

      same : posted st.rec.stage ≡ Abstract.posted (stage_in st.rec)
      same = posted-abs st.rec.stage st.rec.place st.rec.part st.rec.hold st.rec.found

      go : row.job ≡ None → row.status ≢ number → Dec (number ≡ 0)
          → Quiet st w (pick (eqb number 0) (more (with_job row (Some (Answering 0)))) (done (with_status row number)))
      go e n (yes z) = rw (eq-eqb _ 0 z) (inl (
        by-writer (Writing.answer-start w H.writer (ap abs_job e) (sym same ∙ z) (λ q. n (q ∙ sym z))),
        put-job H _ _ refl,
        refl,
        refl,
        job-eight H _,
      ))
      go e n (no z) = rw (ne_eqb number 0 z) (inl (
        by-writer (Writing.answer_post w H.writer (ap abs_job e) (omega (arith, same))),
        put-row H _ st.colours _ refl ∙ (λ i. Abstract.set_row (abs st) w (record { status = same i; slots = (abs_row row).slots; job = abs_job (e i) })),
        refl,
        refl,
        eight-put st.desk w _ H.eight (H.eight w),
      ))

  -- the turns of its job: gray a slot, or finish
  pub answering-moves : (k : ℕ) → row.job ≡ Some (Answering k) → k ≤ 8 → Wrote st w (next_answering row st.fields st.colours k)
  unfolding next_answering with_status with_job
  answering-moves k e b = go (dec_lt k 8)
    where
      gray-slot : k < 8 → Wrote st w (written (more (with_job row (Some (Answering (k + 1))))) st.fields (grayed st.colours (slot_of row k)))
      gray-slot l = rw (slot_at H k l) (inl (
        by-writer (Writing.answer-gray w k H.writer (ap abs_job e) l),
        put-row H _ (grayed st.colours _) _ (abs-grayed st.colours _),
        refl,
        refl,
        job-eight H _,
      ))

      go : Dec (k < 8) → Wrote st w (next_answering row st.fields st.colours k)
      go (yes l) = rw (lt-ltb k 8 l, next_answering) (refuse-cases (Wrote st w) _ _ _ (put_same st w) (λ t. gray-slot l))
      go (no l) = rw (le-ltb k 8 (omega arith), next_answering) (inl (
        by-writer (Writing.answer-end w H.writer (ap abs_job e ∙ ap Abstract.answering (omega arith))),
        put-row H _ st.colours _ refl,
        refl,
        refl,
        eight-put st.desk w _ H.eight (H.eight w),
      ))
