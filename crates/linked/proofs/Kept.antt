-- What an exported call leaves tells the machine's store after the same call.
use Rattle.std.specs.Prelude.{ℕ, ◌≡◌, Bool, length}
use Rattle.std.proofs.Math.Path.{refl, sym}
use Rattle.std.proofs.Math.Bool.{true, false}
use Rattle.std.proofs.Common.{true≢false, arith, ltb-true, eq-eqb}
use Rattle.machine.specs.Choice.{pick, refuse}
use Rattle.machine.specs.ChoiceLaws.{held, refuse-cases}
use Rattle.machine.specs.Store.{Store, Outcome}
use Rattle.machine.specs.Machine.{write, collect, Turn, writer, collector, turn}
use Rattle.machine.specs.declared.Call.{Call}
use Rattle.runs.proofs.Abs.{fit}
use Rattle.turns.specs.Plain.{record_of, answer_number, is_refused}
use Rattle.turns.specs.Calls.{Lent, store_of, shaped, result_of, ended, made, called, row_after, record_after}
use Rattle.turns.proofs.Desk.{desk-length}
use Rattle.linked.specs.Tellable.{Tellable}
use Rattle.linked.specs.Telling.{Whole, Tells}
use Rattle.linked.proofs.Telling.{record_tells, row-tells}
use Rattle.linked.specs.Called.{turn_by}
use Rattle.linked.proofs.Refusing.{refused_left}
use Rattle.linked.specs.Kept.{Kept}
use Rattle.machine.specs.Answer.{Answered}

-- the test that each call begins with
shape_holds : (p : Lent) → Whole p → shaped (length p.numbers) (length p.desk) ≡ true
unfolding shaped
shape_holds p W = held _ (eq-eqb _ _ W.nine, (eq-eqb _ _ W.whole, tt))

-- a call that leaves the store where it is refused, and else puts back what tells the store after it
module _ (call : Store → Outcome Answered) (put : Lent → Store → Lent) (p : Lent) where
  abbrev o : Outcome Answered
  o = call (store_of p)

  called-kept : Whole p → (is_refused o.answer ≡ true → o.store ≡ store_of p) → (is_refused o.answer ≡ false → Tells (put p o.store) o.store) → Kept o (called call put p)
  unfolding called refuse made ended
  called-kept W left puts = rw (shape_holds p W) (go (is_refused o.answer) left puts)
    where
      go : (b : Bool) → (b ≡ true → o.store ≡ store_of p) → (b ≡ false → Tells (put p o.store) o.store) → Kept o (result_of (answer_number o.answer) (pick b p (put p o.store)))
      go true left puts = record { answer = refl; tells = record { store = sym (left refl); whole = W } }
      go false left puts = record { answer = refl; tells = puts refl }

-- ---- a turn
-- a writer's call that is not refused writes its row back
write-puts : (w : ℕ) (call : Call) (p : Lent) → Whole p → Tellable (write w call (store_of p)).store → is_refused (write w call (store_of p)).answer ≡ false
    → Tells (row_after w p (write w call (store_of p)).store) (write w call (store_of p)).store
unfolding write is_refused
write-puts w call p W = refuse-cases (λ (o : Outcome Answered). Tellable o.store → is_refused o.answer ≡ false → Tells (row_after w p o.store) o.store) _ _ _
    (λ k T e. absurd (true≢false e))
    (λ t T e. row-tells p _ w _ W T (omega (arith, ltb-true w (record_of p.numbers).m t.1.0, (fit (store_of p) t.0).desk, desk-length p.desk)) refl refl)

-- the collector's call leaves the desk
collect-desk : (st : Store) → st.desk ≡ (collect st).store.desk
unfolding collect
collect-desk st = refuse-cases (λ (o : Outcome Answered). st.desk ≡ o.store.desk) _ _ _ (λ k. refl) (λ t. refl)

-- any turn, where plain numbers can tell the store after it
pub turn-kept : (t : Turn) (p : Lent) → Whole p → Tellable (turn t (store_of p)).store → Kept (turn t (store_of p)) (turn_by t p)
unfolding turn
turn-kept (writer w call) p W T = called-kept (write w call) (row_after w) p W (refused_left (store_of p) (writer w call)) (write-puts w call p W T)
turn-kept collector p W T = called-kept collect record_after p W (refused_left (store_of p) collector) (λ _. record_tells p (collect (store_of p)).store W T (collect-desk (store_of p)))
