-- Store, and the turns of its job.
use Rattle.std.specs.Prelude.{ℕ, zero, suc, ◌<◌, ◌≡◌, Some, None}
use Rattle.std.proofs.Math.Path.{refl, ap}
use Rattle.std.proofs.Common.{◌∙◌, arith}
use Rattle.std.proofs.Math.Logic.{inl}
use Rattle.std.proofs.Math.ListN.{get_or}
use borrow.Author.Tests.{ltb-true, ne_eqb}
use Rattle.moves.specs.Machine as Abstract
use Rattle.moves.specs.Writing as Writing
use Rattle.moves.specs.Moves.{by-writer}
use Rattle.machine.specs.ChoiceLaws.{refuse-cases}
use Rattle.machine.specs.Choice.{pick, differ}
use Rattle.machine.specs.Limits.{none}
use Rattle.machine.specs.Stage.{tracing}
use Rattle.machine.specs.Store.{Store}
use Rattle.machine.specs.Parts.{with_job}
use Rattle.machine.specs.Gray.{grayed}
use Rattle.machine.specs.Storing.{plan_of, store_cell, store_slots, store, with_old, store_read, store_gray, store_write, next_storing}
use Rattle.machine.specs.Machine.{row_of}
use Rattle.machine.specs.declared.Row.{Row}
use Rattle.machine.specs.declared.Stored.{Stored}
use Rattle.machine.specs.declared.Plan.{Plan}
use Rattle.machine.specs.declared.Plan.TheVariants.{FullRead, FullOld, FullNew, FullWrite, TracedRead, TracedOld, TracedWrite, BareWrite}
use Rattle.machine.specs.declared.Work.TheVariants.{Storing}
use Rattle.runs.specs.Abs.{stage_at, stage_in, abs_stored, abs_job, abs}
use Rattle.runs.proofs.Abs.{abs-grayed, abs-rows, abs-field, field_in}
use Rattle.runs.specs.Frame.{Wrote, Quiet, At}
use Rattle.runs.proofs.Frame.{put_same, idle_is, in_desk, put-row, put-job, job-eight, slot_at}
use Rattle.runs.specs.Storing.{planned}

-- the plan that the machine chooses
plan_abs : (s : Stored) (u st p k h f : ℕ) → s.old ≡ none
    → abs_stored s (pick (differ u 0) FullRead (pick (tracing st) TracedRead BareWrite)) ≡ planned u (stage_at st p k h f) s.cell s.field s.new
unfolding tracing
plan_abs s zero zero p k h f e = rw e
plan_abs s zero (suc zero) p k h f e = rw e
plan_abs s zero (suc (suc zero)) p k h f e = rw e
plan_abs s zero (suc (suc (suc zero))) p k h f e = rw e
plan_abs s zero (suc (suc (suc (suc zero)))) p k h f e = rw e
plan_abs s zero (suc (suc (suc (suc (suc i))))) p k h f e =
    rw (ne_eqb (suc (suc (suc (suc (suc i))))) 3 (omega arith), ne_eqb (suc (suc (suc (suc (suc i))))) 4 (omega arith), e, tracing)
plan_abs s (suc u) st p k h f e = rw (ne_eqb (suc u) 0 (omega arith), e)

module _ {st : Store} {w : ℕ} (H : At st w) where
  abbrev row : Row
  row = row_of st w

  -- store, after its refusals
  pub store-moves : (r f q : ℕ) → Quiet st w (store st.rec row r f q)
  unfolding store store_slots store_cell plan_of
  store-moves r f q = refuse-cases (Quiet st w) _ _ _ (put_same st w) (λ t. refuse-cases (Quiet st w) _ _ _ (put_same st w) (λ u.
      let b : r < 8 = ltb-true _ _ t.0 in
      let d : q < 8 = ltb-true _ _ t.1.0 in
      inl (
        by-writer (Writing.store-start w r f q H.writer (ap abs_job (idle_is row.job t.1.1.1.1.0)) (ltb-true _ _ t.1.1.0, b, d)),
        put-job H _ _ (plan_abs _ row.status st.rec.stage st.rec.place st.rec.part st.rec.hold st.rec.found refl
            ∙ (λ i. planned row.status (stage_in st.rec) (slot_at H r b i) f (slot_at H q d i))),
        refl,
        refl,
        job-eight H _,
      )))

  module _ (s : Stored) (b : s.cell < st.rec.n) (d : s.field < 4) where
    -- the job, at this plan and turn
    abbrev Is : Abstract.Plan → Abstract.Phase → ℕ → Abstract.Job
    Is p t old = Abstract.storing p t s.cell s.field s.new old

    -- read the old value
    read-turn : (next : Plan) (p : Abstract.Plan) → ((o : ℕ) → abs_stored (with_old s o) next ≡ Is p Abstract.graying_old o)
        → abs_job row.job ≡ Is p Abstract.reading s.old
        → Wrote st w (store_read st.rec.n row st.fields st.colours s next)
    unfolding store_read
    read-turn next p z e = refuse-cases (Wrote st w) _ _ _ (put_same st w) (λ t. inl (
      by-writer (Writing.store-read w p s.cell s.field s.new s.old H.writer e d),
      put-job H _ _ (z _ ∙ ap (λ o. Is p Abstract.graying_old o) (field_in st.fields s.cell s.field d (omega (arith, H.fit.fields)))),
      refl,
      refl,
      job-eight H _,
    ))

    -- write
    write-turn : (p : Abstract.Plan) → abs_job row.job ≡ Is p Abstract.writing s.old → Wrote st w (store_write row st.fields st.colours s)
    unfolding store_write with_job
    write-turn p e = inl (
      by-writer (Writing.store-write w p s.cell s.field s.new s.old H.writer e (d, b)),
      (λ i. record {
        N = st.rec.n;
        g = st.rec.g;
        M = st.rec.m;
        count = st.rec.count;
        colour = λ i. get_or st.colours i 3;
        field = abs-field st.fields s.cell s.field s.new d (omega (arith, H.fit.fields)) i;
        rows = abs-rows st.desk w (with_job row None) (in_desk H) i;
      }),
      refl,
      refl,
      job-eight H _,
    )

    -- gray the old value
    old-turn : (next : Plan) (p : Abstract.Plan) → abs_stored s next ≡ Is p (Writing.after_old p) s.old
        → abs_job row.job ≡ Is p Abstract.graying_old s.old
        → Wrote st w (store_gray row st.fields st.colours s.old s next)
    unfolding store_gray with_job
    old-turn next p z e = refuse-cases (Wrote st w) _ _ _ (put_same st w) (λ t. inl (
      by-writer (Writing.store-old w p s.cell s.field s.new s.old H.writer e),
      put-row H _ (grayed st.colours s.old) _ (abs-grayed st.colours s.old) ∙ ap (λ j. Abstract.set_job (Abstract.gray (abs st) s.old) w j) z,
      refl,
      refl,
      job-eight H _,
    ))

    -- gray the new value
    new-turn : abs_job row.job ≡ Is Abstract.full Abstract.graying_new s.old
        → Wrote st w (store_gray row st.fields st.colours s.new s FullWrite)
    unfolding store_gray with_job
    new-turn e = refuse-cases (Wrote st w) _ _ _ (put_same st w) (λ t. inl (
      by-writer (Writing.store-new w Abstract.full s.cell s.field s.new s.old H.writer e),
      put-row H _ (grayed st.colours s.new) _ (abs-grayed st.colours s.new),
      refl,
      refl,
      job-eight H _,
    ))

    -- the turns of each plan
    pub storing-moves : (p : Plan) → row.job ≡ Some (Storing s p) → Wrote st w (next_storing st.rec.n row st.fields st.colours s p)
    unfolding next_storing
    storing-moves FullRead e = read-turn FullOld Abstract.full (λ o. refl) (ap abs_job e)
    storing-moves FullOld e = old-turn FullNew Abstract.full refl (ap abs_job e)
    storing-moves FullNew e = new-turn (ap abs_job e)
    storing-moves FullWrite e = write-turn Abstract.full (ap abs_job e)
    storing-moves TracedRead e = read-turn TracedOld Abstract.trace (λ o. refl) (ap abs_job e)
    storing-moves TracedOld e = old-turn TracedWrite Abstract.trace refl (ap abs_job e)
    storing-moves TracedWrite e = write-turn Abstract.trace (ap abs_job e)
    storing-moves BareWrite e = write-turn Abstract.bare (ap abs_job e)
