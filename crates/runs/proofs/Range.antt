-- The laws of the changes that leave a store in range.
use Rattle.std.specs.Prelude.{ℕ, ◌≤◌, ◌<◌, ◌≡◌, refl, Bool, true, false, ◌≢◌, List, ltb, eqb, length, get_or, set, Err}
use Rattle.std.proofs.Common.{◌∙◌, ap, subst, arith, length-set, lt-ltb, le-ltb}
use Rattle.std.proofs.Math.Decide.{dec_lt}
use Rattle.machine.specs.Choice.{pick}
use Rattle.machine.specs.ChoiceLaws.{Hold, held}
use Rattle.machine.specs.Limits.{none}
use Rattle.machine.specs.Range.{value_ok, record_ok, colour_ok}
use Rattle.machine.specs.Gray.{grayed, gray_ok}
use Rattle.machine.specs.declared.Record.{Record}
use Rattle.runs.proofs.Abs.{any_default, set_all}
use Rattle.runs.specs.Range.{numbers_ok, Values, Colours, Mild}
use Rattle.machine.specs.Answer.{Answered}
use Rattle.machine.specs.Answer.{number}
use Rattle.machine.specs.declared.Refusal.{Refusal}

-- an answer that is no refusal, or one from 3 on, is neither refusal 1 nor 2
pub mild-not : (a : Answered) (k : Refusal) → Mild a → number k ≤ 2 → a ≢ Err k
mild-not a k h l e = let z : 3 ≤ number k = subst Mild e h in omega arith

-- ---- the record
-- the record's test
pub record_ok_lem : (rec : Record) → Hold (numbers_ok rec) → rec.count < 4294967295 → record_ok rec ≡ true
unfolding record_ok
record_ok_lem rec t b = held _ (t.0, (t.1.0, (t.1.1.0, (t.1.1.1.0, (t.1.1.1.1.0, (lt-ltb _ _ b, tt))))))

-- ---- values
-- a cell is a value
pub cell_ok : (n v : ℕ) → v < n → value_ok n v ≡ true
unfolding value_ok
cell_ok n v l = go (eqb v none)
  where
    go : (b : Bool) → pick b true (ltb v n) ≡ true
    go true = refl
    go false = lt-ltb v n l

-- a field that the machine reads
pub value-at : (n : ℕ) (l : List ℕ) (i : ℕ) → Values n l → i < length l → value_ok n (get_or l i 0) ≡ true
value-at n l i h b = ap (value_ok n) (any_default l i 0 none b) ∙ h i

-- ---- colours
-- a colour that the machine reads
pub colour-at : (l : List ℕ) (i : ℕ) → Colours l → i < length l → colour_ok (get_or l i 0) ≡ true
colour-at l i h b = ap colour_ok (any_default l i 0 3 b) ∙ h i

-- the colour that graying reads
pub gray_ok_lem : (l : List ℕ) (v : ℕ) → Colours l → gray_ok l v ≡ true
unfolding gray_ok
gray_ok_lem l v h = go (dec_lt v (length l))
  where
    go : Dec (v < length l) → gray_ok l v ≡ true
    go (yes b) = rw (lt-ltb v (length l) b, gray_ok) (colour-at l v h b)
    go (no b) = rw (le-ltb v (length l) (omega arith), gray_ok)

-- graying leaves colours, and as many
pub grayed_in : (l : List ℕ) (v : ℕ) → Colours l → Colours (grayed l v)
unfolding grayed colour_ok
grayed_in l v h = go (ltb v (length l)) (eqb (get_or l v 0) 1)
  where
    go : (a b : Bool) → Colours (pick a (pick b (set l v 2) l) l)
    go true true = set_all (λ c. colour_ok c ≡ true) l v 2 3 h refl
    go true false = h
    go false b = h

pub grayed-length : (l : List ℕ) (v : ℕ) → length (grayed l v) ≡ length l
unfolding grayed
grayed-length l v = go (ltb v (length l)) (eqb (get_or l v 0) 1)
  where
    go : (a b : Bool) → length (pick a (pick b (set l v 2) l) l) ≡ length l
    go true true = length-set l v 2
    go true false = refl
    go false b = refl
