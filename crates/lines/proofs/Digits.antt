-- A number as std writes it is a number as it is defined here.
use Prim.Native.Nat.{ℕ, ◌^◌, ◌<◌}
use mathlib.Core.Path.{◌≡◌, refl, sym, ◌∙◌}
use mathlib.Core.List.{[], append-nil}
use native.Mathlib.Omega.{arith}
use borrow.Author.Tests.{lt-ltb, le-ltb}
use Rattle.std.specs.Fmt as std
use Rattle.std.proofs.lemmas.Fmt.{PrependsLastDigit, decimal_from_prepends, length-decimal-le}
use Rattle.lines.specs.Numbers.{digits_of, decimal}

prepends : PrependsLastDigit digits_of
unfolding digits_of
prepends = record { one = λ k n acc h. rw (lt-ltb n 10 h) refl; more = λ k n acc h. rw (le-ltb n 10 h) refl }

pub std_decimal : (n : ℕ) → n < 2 ^ 32 → std.decimal n ≡ decimal n
unfolding decimal
std_decimal n h = sym (decimal_from_prepends digits_of prepends 10 n [] (omega arith) (length-decimal-le 10 n (omega arith) (omega arith) (omega arith)) ∙ append-nil (std.decimal n))
