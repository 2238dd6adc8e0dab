-- "A refusal returns its number and nothing else changes": a turn of the machine that is refused leaves the store as it was.
use Rattle.std.specs.Prelude.{ℕ, ◌≡◌, true, ltb, length, set}
use Rattle.std.proofs.Math.Path.{refl, ap}
use Rattle.std.proofs.Common.{◌∙◌}
use mathlib.Core.List.{List, [], ◌∷◌}
use Rattle.std.proofs.lemmas.List.{set-get_or}
use Rattle.machine.specs.Choice.{refuse}
use Rattle.machine.specs.ChoiceLaws.{refuse-cases}
use Rattle.machine.specs.Range.{record_ok}
use Rattle.machine.specs.Stage.{posted}
use Rattle.machine.specs.Store.{Store, Outcome, parts, fresh_row, fits, fits_record}
use Rattle.machine.specs.Turns.{Written, Collected}
use Rattle.machine.specs.Writer.{turn_of}
use Rattle.machine.specs.Collector.{survey, collector_turn}
use Rattle.machine.specs.Machine.{row_of, put_record, write, collect, Turn, writer, collector, turn}
use Rattle.machine.specs.declared.Row.{Row}
use Rattle.machine.specs.declared.Call.{Call}
use Rattle.turn.specs.Lent.{writing}
use Rattle.turns.specs.Plain.{is_refused}
use Rattle.turns.specs.Unchanged.{refused-idles, write-still, stage-same}
use Rattle.machine.specs.declared.Refusal.TheVariants.{BadNumber}
use Rattle.machine.specs.Answer.{Answered}

module _ (st : Store) where
  -- an outcome that leaves the store if it is refused
  abbrev Left : Outcome Answered → Type 0
  Left o = is_refused o.answer ≡ true → o.store ≡ st

  -- a writer's turn leaves its row, fields and colours (`write-still`, where the tests before the turn hold)
  turn-still : (w : ℕ) (call : Call) (o : Written) → o ≡ turn_of st.rec (row_of st w) st.fields st.colours call → fits_record st ≡ true → ltb w st.rec.m ≡ true
      → is_refused o.turn.answer ≡ true → (o.turn.row ≡ row_of st w) × (o.fields ≡ st.fields) × (o.colours ≡ st.colours)
  unfolding writing fits refuse
  turn-still w call o q e d = rw q (rw (e, d) at (write-still st.rec (row_of st w) st.fields st.colours (length st.desk) w call))

  write_left : (w : ℕ) (call : Call) → Left (write w call st)
  unfolding write
  write_left w call = refuse-cases Left _ _ _ (λ k e. refl) (λ t e.
      let same = turn-still w call _ refl t.0 t.1.0 e in
      (λ i. parts st.rec (set st.desk w (same.0 i)) (same.1 i) (same.2 i)) ∙ ap (λ (d : List Row). parts st.rec d st.fields st.colours) (set-get_or st.desk w fresh_row))

  collect_left : Left (collect st)
  unfolding collect collector_turn
  collect_left = refuse-cases Left _ _ _ (λ k e. refl) (λ _.
      refuse-cases (λ (o : Collected). Left (put_record st o)) _ ((record_ok st.rec, BadNumber) ∷ []) _ (λ k e. refl) (λ _ e.
      let same = stage-same st.rec (survey (posted st.rec.stage) st.desk) st.fields st.colours st.rec.stage (refused-idles _ e) in
      λ i. parts (same.0 i) st.desk st.fields (same.1 i)))

  -- any turn
  pub refused_left : (t : Turn) → Left (turn t st)
  unfolding turn
  refused_left (writer w call) = write_left w call
  refused_left collector = collect_left
