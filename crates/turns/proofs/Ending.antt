-- From the turns by value to the exported calls: what each call concludes from its callees' promises.
use Rattle.std.specs.Prelude.{◌≡◌, ℕ, ◌/◌, ◌%◌, ◌<◌, true, false, List, length, get_or, set, replicate, Result, Ok, Err}
use mathlib.Core.Path.{refl, sym, ap, ◌∙◌}
use native.Mathlib.Omega.{arith}
use native.Mathlib.Decide.{dec_lt}
use lib.Seq.{get_or-set_same}
use borrow.Author.Tests.{le-ltb}
use Rattle.machine.specs.Choice.{refuse}
use Rattle.machine.proofs.AnswerLaws.{answer-said}
use Rattle.machine.specs.Answer.{Answered}
use Rattle.machine.specs.Store.{Store, Outcome, outcome, parts, fresh_row, start}
use Rattle.machine.specs.Turns.{RowTurn, written, refused, Written, RecordTurn, stopped, collected, Collected}
use Rattle.machine.specs.Machine.{write, collect, turn, Turn, writer, collector, starting, turning, outcome_of, Meets}
use Rattle.machine.specs.declared.Record.{Record}
use Rattle.machine.specs.declared.Row.{Row}
use Rattle.machine.specs.declared.Call.{Call}
use Rattle.machine.specs.declared.Answer.{Answer}
use Rattle.machine.specs.declared.Answer.TheVariants.{Done}
use Rattle.machine.specs.declared.Refusal.{Refusal}
use Rattle.machine.specs.declared.Refusal.TheVariants.{BadSize}
use Rattle.turn.specs.Lent.{writing, collecting, seen, begun, beginning, Begun}
use Rattle.turn.proofs.Laws.{write_meets, collect-meets, start-done, start-refused}
use Rattle.turns.specs.Plain.{record_of, numbers_of, Standing, desk_of, row_words, with_row, answer_number, is_refused}
use Rattle.turns.specs.Calls.{Lent, lent, store_of, shaped, result_of, ended, made, called, all_after, row_after, record_after, start_by, write_by, collect_by}
use Rattle.turns.proofs.PlainLaws.{sizes-exact}
use Rattle.turns.proofs.CallLaws.{shape_fits}
use Rattle.turns.proofs.Desk.{desk-length}
use Rattle.turns.specs.Unchanged.{refused-idles, write-still, collect-same, collect-keeps, start-still}

-- row w of a desk in which it was put
put-there : (words : List ℕ) (w : ℕ) (row : Row) → with_row words w row ≡ with_row words w (get_or (set (desk_of words) w row) w fresh_row)
unfolding with_row
put-there words w row = go (dec_lt w (length words / 16))
  where
    go : Dec (w < length words / 16) → with_row words w row ≡ with_row words w (get_or (set (desk_of words) w row) w fresh_row)
    go (yes h) = rw (get_or-set_same (desk_of words) w row fresh_row (omega (arith, desk-length words))) refl
    go (no h) = rw (le-ltb w (length words / 16) (omega arith)) refl

-- the machine's outcome, from what its lent form meets
turned : (t : Turn) (st after : Store) (a : Answered) → Meets (turning t) st a after → outcome a after ≡ turn t st
unfolding outcome_of
turned t st after a m = λ i. record { answer = answer-said a (turn t st).answer m.says i; store = m.leaves i }

-- ---- the shape's test
pub nine : (numbers words : ℕ) → shaped numbers words ≡ true → numbers ≡ 9
nine numbers words e = (shape_fits numbers words e).nine

pub whole : (numbers words : ℕ) → shaped numbers words ≡ true → words % 16 ≡ 0
whole numbers words e = (shape_fits numbers words e).whole

pub shapeless : (call : Store → Outcome Answered) (put : Lent → Store → Lent) (p : Lent) → shaped (length p.numbers) (length p.desk) ≡ false → result_of (answer_number (Err BadSize)) p ≡ called call put p
unfolding called refuse answer_number
shapeless call put p e = rw e refl

-- the lent parts that a call is made on, where the shape fits
module _ (numbers words fs cs : List ℕ) (fit : shaped (length numbers) (length words) ≡ true) where
  abbrev p : Lent
  p = lent numbers words fs cs

  abbrev st : Store
  st = store_of p

  -- how one of the machine's calls ends: refused, or with what is put
  module _ (call : Store → Outcome Answered) (put : Lent → Store → Lent) where
    refused_end : (k : Refusal) (after : Store) (fs' cs' : List ℕ) → outcome (Err k) after ≡ call st → (fs' ≡ fs) × (cs' ≡ cs) → result_of (answer_number (Err k)) (lent numbers words fs' cs') ≡ called call put p
    unfolding called refuse made ended answer_number is_refused
    refused_end k after fs' cs' is same = rw (same.0, same.1) (rw fit (rw (← is) refl))

    put-end : (a : Answer) (after : Store) (p' : Lent) → outcome (Ok a) after ≡ call st → p' ≡ put p after → result_of (answer_number (Ok a)) p' ≡ called call put p
    unfolding called refuse made ended is_refused
    put-end a after p' is e = rw e (rw fit (rw (← is) refl))

  -- ---- a writer's call; t is the turn
  module _ (w : ℕ) (call : Call) (fs' cs' : List ℕ) where
    abbrev made_write : RowTurn → Type 0
    made_write t = written t fs' cs' ≡ writing (record_of numbers) (length words / 16) w (get_or (desk_of words) w fresh_row) fs cs call

    abbrev after_write : Row → Store
    after_write row = parts (record_of numbers) (set (desk_of words) w row) fs' cs'

    write_is : (t : RowTurn) → made_write t → outcome t.answer (after_write t.row) ≡ write w call st
    unfolding turn
    write_is t is =
        turned (writer w call) st (after_write t.row) t.answer
        (write_meets (record_of numbers) (desk_of words) fs cs w call t (set (desk_of words) w t.row) fs' cs'
        (is ∙ rw (desk-length words) refl) refl)

    pub write_refused : (k : Refusal) → made_write (refused (get_or (desk_of words) w fresh_row) k) → result_of (answer_number (Err k)) (lent numbers words fs' cs') ≡ write_by w call p
    unfolding is_refused
    write_refused k is =
        let same = write-still (record_of numbers) (get_or (desk_of words) w fresh_row) fs cs (length words / 16) w call (ap (λ (o : Written). is_refused o.turn.answer) (sym is)) in
        refused_end (write w call) (row_after w) k _ fs' cs' (write_is _ is) (ap (λ (o : Written). o.fields) is ∙ same.1, ap (λ (o : Written). o.colours) is ∙ same.2)

    pub write_put : (a : Answer) (row : Row) (words' : List ℕ) → made_write (record { answer = Ok a; row = row }) → words' ≡ with_row words w row → result_of (answer_number (Ok a)) (lent numbers words' fs' cs') ≡ write_by w call p
    write_put a row words' is d =
        put-end (write w call) (row_after w) a (after_write row) (lent numbers words' fs' cs') (write_is _ is) (rw (d ∙ put-there words w row) refl)

  -- ---- the collector's call
  module _ (cs' : List ℕ) where
    abbrev made_collect : RecordTurn → Type 0
    made_collect t = collected t cs' ≡ collecting (record_of numbers) (length words / 16) (seen (record_of numbers) (desk_of words)) fs cs

    abbrev after_collect : Record → Store
    after_collect rec = parts rec (desk_of words) fs cs'

    collect_is : (t : RecordTurn) → made_collect t → outcome t.answer (after_collect t.rec) ≡ collect st
    unfolding turn
    collect_is t is =
        turned collector st (after_collect t.rec) t.answer
        (collect-meets (record_of numbers) (desk_of words) fs cs t cs' (is ∙ rw (desk-length words) refl))

    pub collect_refused : (k : Refusal) → made_collect (stopped (record_of numbers) k) → result_of (answer_number (Err k)) (lent numbers words fs cs') ≡ collect_by p
    unfolding is_refused
    collect_refused k is =
        let same = collect-same (record_of numbers) (seen (record_of numbers) (desk_of words)) fs cs (length words / 16) (refused-idles _ (ap (λ (o : Collected). is_refused o.turn.answer) (sym is))) in
        refused_end collect record_after k _ fs cs' (collect_is _ is) (refl, ap (λ (o : Collected). o.colours) is ∙ same.1)

    pub collect_stands : (a : Answer) (rec : Record) → made_collect (record { answer = Ok a; rec = rec }) → Standing numbers rec
    unfolding is_refused
    collect_stands a rec is =
        let k = collect-keeps (record_of numbers) (seen (record_of numbers) (desk_of words)) fs cs (length words / 16) (ap (λ (o : Collected). is_refused o.turn.answer) (sym is)) in
        let same = ap (λ (o : Collected). o.turn.rec) is in
        sizes-exact numbers rec (shape_fits _ _ fit).nine k.0 (ap (λ (r : Record). r.n) same ∙ k.1) (ap (λ (r : Record). r.g) same ∙ k.2) (ap (λ (r : Record). r.m) same ∙ k.3)

    pub collect_put : (a : Answer) (rec : Record) (numbers' : List ℕ) → made_collect (record { answer = Ok a; rec = rec }) → numbers' ≡ numbers_of rec → result_of (answer_number (Ok a)) (lent numbers' words fs cs') ≡ collect_by p
    collect_put a rec numbers' is d =
        put-end collect record_after a (after_collect rec) (lent numbers' words fs cs') (collect_is _ is) (rw d refl)

  -- ---- start
  module _ (n g m : ℕ) (fs' cs' : List ℕ) where
    abbrev made_start : Result Record Refusal → Type 0
    made_start t = begun t fs' cs' ≡ beginning n g m (length words / 16) fs cs

    started : (a : Answered) (after : Store) → Meets (starting n g m) st a after → outcome a after ≡ start n g m st
    unfolding outcome_of
    started a after k = λ i. record { answer = answer-said a (start n g m st).answer k.says i; store = k.leaves i }

    pub start_refused : (k : Refusal) → made_start (Err k) → result_of (answer_number (Err k)) (lent numbers words fs' cs') ≡ start_by n g m p
    unfolding is_refused
    start_refused k is =
        let same = start-still n g m (length words / 16) fs cs (ap (λ (b : Begun). is_refused b.started) (sym is)) in
        refused_end (start n g m) all_after k _ fs' cs'
        (started _ _ (start-refused (record_of numbers) (desk_of words) fs cs n g m k fs' cs' (is ∙ rw (desk-length words) refl)))
        (ap (λ (b : Begun). b.fields) is ∙ same.0, ap (λ (b : Begun). b.colours) is ∙ same.1)

    pub start_put : (rec : Record) (numbers' words' : List ℕ) → made_start (Ok rec) → words' ≡ row_words (replicate (length (desk_of words)) fresh_row) → numbers' ≡ numbers_of rec
        → result_of (answer_number (Ok Done)) (lent numbers' words' fs' cs') ≡ start_by n g m p
    start_put rec numbers' words' is d f =
        put-end (start n g m) all_after Done (parts rec (replicate (length (desk_of words)) fresh_row) fs' cs') (lent numbers' words' fs' cs')
        (started _ _ (start-done (record_of numbers) (desk_of words) fs cs n g m rec _ fs' cs' (is ∙ rw (desk-length words) refl) refl)) (rw (d, f) refl)

pub ruleset shapes = (nine, whole, shapeless)
