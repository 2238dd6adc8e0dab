-- What the collector sees of the desk: no more rows than there are, and enough for the turn.
use Rattle.std.specs.Prelude.{◌≡◌, ℕ, ◌≤◌, Bool, true, false, eqb, leb, List, length, take, Result, Ok, Err}
use Rattle.std.specs.List.{list_all}
use mathlib.Core.Path.{refl, sym}
use Rattle.std.proofs.Common.{arith}
use mathlib.Core.Bool.{true≢false}
use lib.Seq.{take-length}
use borrow.Author.Tests.{leb-false, lt-ltb}
use Rattle.machine.specs.Choice.{pick, every, refuse}
use Rattle.machine.specs.Stage.{posted}
use Rattle.machine.specs.Range.{status_ok}
use Rattle.machine.specs.Collector.{has_status, survey, marking, by_stage, collector_turn}
use Rattle.machine.specs.declared.Record.{Record}
use Rattle.machine.specs.declared.Row.{Row}
use Rattle.machine.specs.declared.Refusal.{Refusal}
use Rattle.machine.specs.declared.Refusal.TheVariants.{BadNumber}
use Rattle.cells.proofs.Testing.{same_all}
use Rattle.turn.specs.Lent.{waits, rows_read, seen}

pick-le : (t : Bool) (n : ℕ) → pick t n 0 ≤ n
pick-le true n = omega arith
pick-le false n = omega arith

pub rows_read_le : (rec : Record) (rows : ℕ) → rows_read rec rows ≤ rows
unfolding rows_read
rows_read_le rec rows = pick-le (waits rec) rows

-- ---- the first n rows were asked
module _ (rec : Record) (desk : List Row) (n : ℕ) (reads : n ≡ rows_read rec (length desk)) where
  pub seen_bad : (fit : Bool) → fit ≡ list_all status_ok (take n desk) → fit ≡ false → Err BadNumber ≡ seen rec desk
  unfolding seen survey refuse
  seen_bad fit e f = rw (sym reads, same_all status_ok (take n desk), sym e, f) refl

  pub seen_all : (fit same : Bool) (number : ℕ) → fit ≡ list_all status_ok (take n desk) → fit ≡ true → number ≡ posted rec.stage → same ≡ list_all (has_status number) (take n desk) → Ok same ≡ seen rec desk
  unfolding seen survey refuse
  seen_all fit same number e f p d =
      rw (sym reads, same_all status_ok (take n desk), sym e, f, same_all (has_status (posted rec.stage)) (take n desk), sym p, sym d) refl

-- ---- a turn that is no waiting test does not ask what was seen
unwaited : (rec : Record) (s s' : Result Bool Refusal) (fs cs : List ℕ) → waits rec ≡ false → by_stage rec s fs cs rec.stage ≡ by_stage rec s' fs cs rec.stage
unfolding waits by_stage marking every
unwaited rec s s' fs cs = go (eqb rec.stage 1) (eqb rec.stage 2) (eqb rec.stage 3) (leb rec.g rec.place) refl refl refl refl
  where
    go : (a b c d : Bool) → eqb rec.stage 1 ≡ a → eqb rec.stage 2 ≡ b → eqb rec.stage 3 ≡ c → leb rec.g rec.place ≡ d
        → waits rec ≡ false → by_stage rec s fs cs rec.stage ≡ by_stage rec s' fs cs rec.stage
    go true b c d p q r t e = absurd (true≢false (rw (p, waits) at e))
    go false true c d p q r t e = absurd (true≢false (rw (p, q, waits) at e))
    go false false true true p q r t e = absurd (true≢false (rw (p, q, r, t, waits, every) at e))
    go false false true false p q r t e = rw (p, q, r, lt-ltb rec.place rec.g (leb-false rec.g rec.place t), by_stage, marking) refl
    go false false false d p q r t e = rw (p, q, r, by_stage) refl

-- what this turn reads of the desk is enough for it
pub turn-seen : (rec : Record) (desk : List Row) (fs cs : List ℕ) → collector_turn rec (seen rec desk) fs cs ≡ collector_turn rec (survey (posted rec.stage) desk) fs cs
unfolding seen rows_read collector_turn
turn-seen rec desk fs cs = go (waits rec) refl
  where
    go : (b : Bool) → waits rec ≡ b → collector_turn rec (seen rec desk) fs cs ≡ collector_turn rec (survey (posted rec.stage) desk) fs cs
    go true e = rw (e, take-length desk, seen, rows_read) refl
    go false e = rw (unwaited rec (seen rec desk) (survey (posted rec.stage) desk) fs cs e) refl
