-- A store in range is one that plain numbers can tell: each of its numbers fits its type.
use Rattle.std.specs.Prelude.{ℕ, ◌<◌, ◌≡◌, ◌⊎◌, true, length, Option, Some, None}
use Rattle.std.proofs.Common.{inl, inr, arith, ltb-true, leb-true}
use Rattle.machine.specs.ChoiceLaws.{Hold, hold}
use Rattle.machine.specs.Limits.{none, limits_ok, sizes_ok}
use Rattle.machine.specs.Store.{Store, fits}
use Rattle.machine.specs.Range.{status_ok, stored_ok, made_ok, work_ok, job_ok, row_ok}
use Rattle.machine.specs.RangeLaws.{row-job}
use Rattle.machine.specs.Machine.{row_of}
use Rattle.machine.specs.declared.Record.{Record}
use Rattle.machine.specs.declared.Row.{Row}
use Rattle.machine.specs.declared.Work.TheVariants.{Answering, Storing, Creating}
use Rattle.runs.specs.Abs.{Eight}
use Rattle.runs.specs.Range.{numbers_ok, InRange}
use Rattle.turns.specs.Fits.{JobFits, RowFits, RecordFits}
use Rattle.turns.proofs.PlainLaws.{small}
use Rattle.linked.specs.Tellable.{Tellable}
use Rattle.machine.specs.declared.Work.{Work}

-- ---- a row: its job's numbers, and all of it
job-fits : (n : ℕ) (j : Option Work) → job_ok n j ≡ true → JobFits j
unfolding job_ok work_ok stored_ok made_ok
job-fits n None e = tt
job-fits n (Some (Answering k)) e = omega (arith, leb-true k 8 e)
job-fits n (Some (Storing s p)) e = omega (arith, ltb-true s.field 4 (hold _ e).1.0)
job-fits n (Some (Creating m)) e = omega (arith, ltb-true m.slot 8 (hold _ e).0)

row_fits : (n : ℕ) (row : Row) → row_ok n row ≡ true → length row.slots ≡ 8 → RowFits row
unfolding row_ok status_ok
row_fits n row e l = record { slots = l; status = omega (arith, leb-true row.status 2 (hold _ e).0); job = job-fits n row.job (row-job n row e) }

-- ---- the record
-- a cell or none is a word
held_fits : (v : ℕ) → (v ≡ none) ⊎ (v < 4096) → v < 65536
held_fits v (inl h) = omega arith
held_fits v (inr h) = omega arith

record_fits : (rec : Record) → limits_ok rec.n rec.g rec.m ≡ true → Hold (numbers_ok rec) → RecordFits rec
record_fits rec limits range =
    let s = small rec limits range.0 range.1.0 range.1.1.0 range.1.1.1.0 range.1.1.1.1.0 in
    record {
      n = omega (arith, s.n);
      g = omega (arith, s.g);
      m = omega (arith, s.m);
      stage = omega (arith, s.stage);
      place = omega (arith, s.place);
      part = omega (arith, s.part);
      hold = held_fits rec.hold s.hold;
      found = omega (arith, s.found);
    }

-- ---- the store
pub in_range-tellable : (st : Store) → InRange st → Eight st.desk → Tellable st
unfolding fits sizes_ok
in_range-tellable st R E = record {
  rec = record_fits st.rec (hold _ R.sizes).0 R.numbers;
  rows = λ w. row_fits st.rec.n (row_of st w) (R.rows w) (E w);
}
