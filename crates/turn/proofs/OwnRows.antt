-- The desk of who keeps eight rows has at most eight rows.
use Rattle.std.specs.Prelude.{◌≡◌, ℕ, ◌<◌, ◌≤◌, nat_lt, Bool, true, false, List, length, take}
use Rattle.std.proofs.Common.{refl, sym, subst, arith}
use Rattle.std.proofs.lemmas.Bool.{ltb-false}
use Rattle.std.proofs.lemmas.List.{length-take-le}
use Rattle.std.proofs.Math.Dec.{T, ltb, ltb→lt}
use Rattle.machine.specs.Choice.{pick}
use Rattle.machine.specs.declared.Row.{Row}
use Rattle.turn.specs.Lent.{own_rows}

pub own_few : (m : ℕ) → own_rows m ≤ 8
unfolding own_rows
own_few m = go (ltb m 8) (ltb→lt m 8)
  where
    go : (b : Bool) → (T b → m < 8) → pick b m 8 ≤ 8
    go true l = let h : m < 8 = l tt in omega arith
    go false l = omega arith

-- and no more than there are
pub own_le : (n : ℕ) → own_rows n ≤ n
unfolding own_rows
own_le n = go (nat_lt n 8) refl
  where
    go : (b : Bool) → nat_lt n 8 ≡ b → pick b n 8 ≤ n
    go true e = omega arith
    go false e = ltb-false n 8 e

-- and all, where there are no more than eight
pub own_all : (n : ℕ) → n ≤ 8 → own_rows n ≡ n
unfolding own_rows
own_all n h = go (nat_lt n 8) refl
  where
    go : (b : Bool) → nat_lt n 8 ≡ b → pick b n 8 ≡ n
    go true e = refl
    go false e = let more : 8 ≤ n = ltb-false n 8 e in omega arith

-- it is that long
pub own_length : (m : ℕ) (rows : List Row) → length rows ≡ 8 → length (take (own_rows m) rows) ≡ own_rows m
own_length m rows e = length-take-le (own_rows m) rows (subst (λ (k : ℕ). own_rows m ≤ k) (sym e) (own_few m))
