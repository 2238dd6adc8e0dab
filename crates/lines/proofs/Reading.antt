-- The loop that reads a number.
use Prim.Native.Nat.{ℕ, ◌+◌, ◌*◌, ◌-◌, ◌^◌, ◌<◌, ◌≤◌}
use mathlib.Core.Path.{◌≡◌, refl, sym, ◌∙◌}
use mathlib.Core.Bool.{Bool, true, false}
use mathlib.Core.List.{List}
use native.Mathlib.Numerals.{add-one}
use native.Mathlib.Nat.{pow-suc}
use native.Mathlib.Omega.{arith}
use borrow.Author.Tests.{le-leb, leb-true}
use lib.ListN.{length, get_or, drop, drop_of_length-le}
use Rattle.std.specs.Prelude.{Some, None}
use Rattle.std.specs.Char.{is_ascii_digit, IsAsciiDigit, IsNotAsciiDigit}
use Rattle.std.specs.Bool.{MatchBool}
use Rattle.std.proofs.lemmas.Bool.{false≢true}
use Rattle.machine.specs.Choice.{pick, all, every}
use Rattle.cells.proofs.Looping.{drop-step, all_stop, all_end}
use Rattle.lines.specs.Numbers.{value_from, number_of}

module _ (f : List ℕ) where
  -- a field that is no number, and one that is
  no_length : (t u b : Bool) → (t ≡ true → u ≡ true → ⊥) → None ≡ pick (pick t (pick u b false) false) (Some (value_from 0 f)) None
  no_length false u b h = refl
  no_length true false b h = refl
  no_length true true b h = absurd (h refl refl)

  pub wrong_length : (1 ≤ length f → length f ≤ 5 → ⊥) → None ≡ number_of f
  unfolding number_of every
  wrong_length h = no_length _ _ _ (λ t u. h (leb-true 1 (length f) t) (leb-true (length f) 5 u))

  pub no_digit : 1 ≤ length f → length f ≤ 5 → false ≡ all is_ascii_digit f → None ≡ number_of f
  unfolding number_of every
  no_digit l h e = rw (le-leb 1 (length f) l, le-leb (length f) 5 h, ← e) refl

  pub digits : (n : ℕ) → 1 ≤ length f → length f ≤ 5 → true ≡ all is_ascii_digit f → n ≡ value_from 0 f → Some n ≡ number_of f
  unfolding number_of every
  digits n l h e v = rw (le-leb 1 (length f) l, le-leb (length f) 5 h, ← e, v) refl

-- one digit more
module _ (i v b d : ℕ) (e : d ≡ b - 48) where
  pub more : (r : Bool) → r ≡ true → MatchBool r (IsAsciiDigit b) (IsNotAsciiDigit b) → v < 10 ^ i → v * 10 + d < 10 ^ (i + 1)
  more true q k h = let p : 10 ^ (i + 1) ≡ 10 ^ i * 10 = rw (add-one i) (pow-suc 10 i) in omega arith
  more false q k h = absurd (false≢true q)

pub value-more : (f : List ℕ) (i v d : ℕ) → d ≡ get_or f i 0 - 48 → value_from v (drop i f) ≡ value_from 0 f → i < length f → value_from (v * 10 + d) (drop (i + 1) f) ≡ value_from 0 f
unfolding value_from
value-more f i v d e p h =
    let q : value_from v (drop i f) ≡ value_from (v * 10 + (get_or f i 0 - 48)) (drop (i + 1) f) = rw (drop-step f i h) refl in
    rw e (sym q ∙ p)

pub value_end : (f : List ℕ) (i v : ℕ) → value_from v (drop i f) ≡ value_from 0 f → length f ≤ i → v ≡ value_from 0 f
unfolding value_from
value_end f i v p h = rw (drop_of_length-le f h) at p

pub ruleset numbers = (wrong_length, no_digit, digits, value_end, all_stop, all_end)
