-- From the calls by value to the machine: what each public call concludes from its callees' promises.
use Rattle.std.specs.Prelude.{◌≡◌, ℕ, ◌*◌, Bool, true, false, List, length, get_or, set, replicate, Result, Ok, Err}
use mathlib.Core.Path.{refl, sym, ◌∙◌, ap}
use lib.Seq.{set-get_or}
use borrow.Author.Tests.{eqb-true}
use Rattle.machine.specs.Choice.{refuse}
use Rattle.machine.specs.ChoiceLaws.{hold, refuse-map}
use Rattle.machine.specs.Limits.{lengths_ok, sizes_ok}
use Rattle.machine.specs.Store.{Store, Outcome, outcome, parts, refusing, fits, fresh_row, fresh, start}
use Rattle.machine.specs.Turns.{RowTurn, RecordTurn, written, refused, collected}
use Rattle.machine.specs.Collector.{barred}
use Rattle.machine.specs.Machine.{put_row, put_record, write, collect, turn, writer, collector, Public, starting, turning, Answers, said_in, outcome_of, Meets}
use Rattle.machine.specs.declared.Record.{Record}
use Rattle.machine.specs.declared.Row.{Row}
use Rattle.machine.specs.declared.Call.{Call}
use Rattle.machine.specs.Answer.{Answered}
use Rattle.machine.specs.declared.Refusal.{Refusal}
use Rattle.machine.specs.declared.Answer.TheVariants.{Done}
use Rattle.turn.specs.Lent.{writing, collecting, seen, begun, beginning, Begun}
use Rattle.turn.proofs.Seeing.{turn-seen}

meets : (p : Public) (st : Store) (a : Answers p) (after : Store) → outcome a after ≡ outcome_of p st → Meets p st a after
meets p st a after e = record { says = ap (λ (o : Outcome (Answers p)). said_in p o.answer) e; leaves = ap (λ (o : Outcome (Answers p)). o.store) e }

-- the store that a call is made on
module _ (rec : Record) (desk : List Row) (fs cs : List ℕ) where
  abbrev st : Store
  st = parts rec desk fs cs

  -- ---- a writer's call
  write-lent : (w : ℕ) (call : Call) → put_row st w (writing rec (length desk) w (get_or desk w fresh_row) fs cs call) ≡ write w call st
  unfolding writing write fits
  write-lent w call =
      refuse-map (put_row st w) (λ k. written (refused (get_or desk w fresh_row) k) fs cs) (refusing st)
      (λ k. rw (set-get_or desk w fresh_row) refl) _ _

  pub write_meets : (w : ℕ) (call : Call) (t : RowTurn) (desk' : List Row) (fs' cs' : List ℕ) → written t fs' cs' ≡ writing rec (length desk) w (get_or desk w fresh_row) fs cs call → desk' ≡ set desk w t.row → Meets (turning (writer w call)) st t.answer (parts rec desk' fs' cs')
  unfolding outcome_of turn
  write_meets w call t desk' fs' cs' e d = meets (turning (writer w call)) st t.answer (parts rec desk' fs' cs') (rw d (ap (put_row st w) e ∙ write-lent w call))

  -- refused, the row stays
  pub write_refused : (w : ℕ) (call : Call) (k : Refusal) (fs' cs' : List ℕ) → written (refused (get_or desk w fresh_row) k) fs' cs' ≡ writing rec (length desk) w (get_or desk w fresh_row) fs cs call → Meets (turning (writer w call)) st (Err k) (parts rec desk fs' cs')
  write_refused w call k fs' cs' e = write_meets w call (refused (get_or desk w fresh_row) k) desk fs' cs' e (sym (set-get_or desk w fresh_row))

  -- ---- the collector's call
  collect-lent : put_record st (collecting rec (length desk) (seen rec desk) fs cs) ≡ collect st
  unfolding collecting collect fits
  collect-lent = rw (turn-seen rec desk fs cs) (refuse-map (put_record st) (barred rec cs) (refusing st) (λ k. refl) _ _)

  pub collect-meets : (t : RecordTurn) (cs' : List ℕ) → collected t cs' ≡ collecting rec (length desk) (seen rec desk) fs cs → Meets (turning collector) st t.answer (parts t.rec desk fs cs')
  unfolding outcome_of turn
  collect-meets t cs' e = meets (turning collector) st t.answer (parts t.rec desk fs cs') (ap (put_record st) e ∙ collect-lent)

  -- ---- start
  lengths : (n g m : ℕ) → sizes_ok n g m (length desk) (length fs) (length cs) ≡ true → (length desk ≡ m) × (length fs ≡ n * 4) × (length cs ≡ n)
  unfolding sizes_ok lengths_ok
  lengths n g m e = let l = hold _ (hold _ e).1.0 in (eqb-true _ _ l.1.1.0, eqb-true _ _ l.0, eqb-true _ _ l.1.0)

  -- everything that start fills
  filled : Result Record Refusal → List ℕ → List ℕ → Outcome Answered
  filled (Ok r) fs' cs' = outcome (Ok Done) (parts r (replicate (length desk) fresh_row) fs' cs')
  filled (Err k) fs' cs' = outcome (Err k) (parts rec desk fs' cs')

  start-lent : (n g m : ℕ) → (λ (b : Begun). filled b.started b.fields b.colours) (beginning n g m (length desk) fs cs) ≡ start n g m st
  unfolding beginning start fits fresh refuse filled
  start-lent n g m = go (sizes_ok n g m (length desk) (length fs) (length cs)) refl
    where
      go : (b : Bool) → sizes_ok n g m (length desk) (length fs) (length cs) ≡ b → (λ (b : Begun). filled b.started b.fields b.colours) (beginning n g m (length desk) fs cs) ≡ start n g m st
      go true e = let l = lengths n g m e in rw (e, beginning, start, fits, refuse) (rw (l.0, l.1, l.2) refl)
      go false e = rw (e, beginning, start, fits, refuse) refl

  start-is : (n g m : ℕ) (t : Result Record Refusal) (fs' cs' : List ℕ) → begun t fs' cs' ≡ beginning n g m (length desk) fs cs → filled t fs' cs' ≡ start n g m st
  start-is n g m t fs' cs' e = ap (λ (b : Begun). filled b.started b.fields b.colours) e ∙ start-lent n g m

  pub start-done : (n g m : ℕ) (r : Record) (desk' : List Row) (fs' cs' : List ℕ) → begun (Ok r) fs' cs' ≡ beginning n g m (length desk) fs cs → desk' ≡ replicate (length desk) fresh_row → Meets (starting n g m) st (Ok Done) (parts r desk' fs' cs')
  unfolding outcome_of filled
  start-done n g m r desk' fs' cs' e d = meets (starting n g m) st (Ok Done) (parts r desk' fs' cs') (rw d (start-is n g m (Ok r) fs' cs' e))

  pub start-refused : (n g m : ℕ) (k : Refusal) (fs' cs' : List ℕ) → begun (Err k) fs' cs' ≡ beginning n g m (length desk) fs cs → Meets (starting n g m) st (Err k) (parts rec desk fs' cs')
  unfolding outcome_of filled
  start-refused n g m k fs' cs' e = meets (starting n g m) st (Err k) (parts rec desk fs' cs') (start-is n g m (Err k) fs' cs' e)
