-- What the shape's test tells, and an answer's number: below 100 nothing has changed, and where the collector waited nothing has either.
use Rattle.std.specs.Prelude.{◌≡◌, ℕ, ◌<◌, true, [], ◌∷◌, length, ◌≢◌, Ok, Err}
use Rattle.std.specs.Prelude.{refl}
use Rattle.std.proofs.Common.{ap, arith, eqb-true}
use Rattle.machine.specs.ChoiceLaws.{hold, refuse-cases}
use Rattle.machine.specs.Limits.{limits_ok, sizes_ok}
use Rattle.machine.specs.Range.{record_ok}
use Rattle.machine.specs.Store.{Store, Outcome, parts, fits, fits_record}
use Rattle.machine.specs.Stage.{posted}
use Rattle.machine.specs.Turns.{Collected}
use Rattle.machine.specs.Collector.{survey, collector_turn}
use Rattle.machine.specs.Machine.{put_record, collect}
use Rattle.machine.specs.Answer.{Answered}
use Rattle.machine.specs.declared.Answer.TheVariants.{Done, More, Worked, Waited}
use Rattle.machine.specs.declared.Refusal.{Refusal}
use Rattle.machine.specs.declared.Refusal.TheVariants.{BadNumber}
use Rattle.turns.specs.Plain.{answer_number, is_refused}
use Rattle.turns.proofs.PlainLaws.{record_exact}
use Rattle.turns.specs.Unchanged.{idles, stage-same}
use Rattle.turns.specs.Calls.{Lent, lent, store_of, shaped, Shaped, Reply, ended, made, called, record_after, collect_by}

-- ---- the shape's test as facts
pub shape_fits : (numbers words : ℕ) → shaped numbers words ≡ true → Shaped numbers words
unfolding shaped
shape_fits numbers words e = record { nine = eqb-true _ _ (hold _ e).0; whole = eqb-true _ _ (hold _ e).1.0 }

-- ---- a call that answers a number below 100
low : (p after : Lent) (a : Answered) → (ended p after a).answer < 100 → (ended p after a).after ≡ p
unfolding ended answer_number is_refused
low p after (Ok Done) h = absurd (omega arith)
low p after (Ok More) h = absurd (omega arith)
low p after (Ok Worked) h = absurd (omega arith)
low p after (Ok Waited) h = absurd (omega arith)
low p after (Err k) h = refl

pub refused-nothing : (call : Store → Outcome Answered) (put : Lent → Store → Lent) (p : Lent) → (called call put p).answer < 100 → (called call put p).after ≡ p
unfolding called made
refused-nothing call put p = refuse-cases (λ (r : Reply). r.answer < 100 → r.after ≡ p) _ _ _ (λ k h. refl) (λ t. low p _ (call (store_of p)).answer)

-- ---- the collector waited
-- its record is in range, and its store is as before
record Waits (st after : Store) : Type 0 where
  limits : limits_ok st.rec.n st.rec.g st.rec.m ≡ true
  range : record_ok st.rec ≡ true
  leaves : after ≡ st

never : (k : Refusal) → ◌≢◌ {A = Answered} (Err k) (Ok Waited)
never k e = let z : ◌≡◌ {A = ℕ} 0 1 = cc in omega arith

within : (st : Store) → fits_record st ≡ true → limits_ok st.rec.n st.rec.g st.rec.m ≡ true
unfolding fits sizes_ok
within st e = (hold _ e).0

waits : (st : Store) → (collect st).answer ≡ Ok Waited → Waits st (collect st).store
unfolding collect collector_turn
waits st =
    refuse-cases (λ (o : Outcome Answered). o.answer ≡ Ok Waited → Waits st o.store) _ _ _ (λ k e. absurd (never k e)) (λ t.
    refuse-cases (λ (o : Collected). o.turn.answer ≡ Ok Waited → Waits st (put_record st o).store) _ ((record_ok st.rec, BadNumber) ∷ []) _ (λ k e. absurd (never k e)) (λ u e.
    let same = stage-same st.rec (survey (posted st.rec.stage) st.desk) st.fields st.colours st.rec.stage (ap idles e) in
    record { limits = within st t.0; range = u.0; leaves = λ i. parts (same.0 i) st.desk st.fields (same.1 i) }))

waited : (p : Lent) (a : Answered) → length p.numbers ≡ 9 → (collect (store_of p)).answer ≡ a
    → (ended p (record_after p (collect (store_of p)).store) a).answer ≡ 103 → (ended p (record_after p (collect (store_of p)).store) a).after ≡ p
unfolding ended answer_number is_refused
waited p (Ok Done) n e h = absurd (omega arith)
waited p (Ok More) n e h = absurd (omega arith)
waited p (Ok Worked) n e h = absurd (omega arith)
waited p (Ok Waited) n e h =
    let w = waits (store_of p) e in
    rw w.leaves (ap (λ r. lent r p.desk p.fields p.colours) (record_exact p.numbers n w.limits w.range))
waited p (Err k) n e h = refl

pub waited-nothing : (p : Lent) → (collect_by p).answer ≡ 103 → (collect_by p).after ≡ p
unfolding called made
waited-nothing p =
    refuse-cases (λ (r : Reply). r.answer ≡ 103 → r.after ≡ p) _ _ _ (λ k h. refl) (λ t. waited p (collect (store_of p)).answer (shape_fits (length p.numbers) (length p.desk) t.0).nine refl)
