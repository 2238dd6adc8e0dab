-- What refusal 1, once it has been passed, gives the turns: the lent lengths fit N, and N, g and M are small.
use Rattle.std.specs.Prelude.{◌≡◌, ℕ, ◌≤◌, true, List, length}
use Rattle.std.proofs.Common.{sym, arith}
use borrow.Author.Tests.{eqb-true, leb-true}
use Rattle.machine.specs.ChoiceLaws.{hold}
use Rattle.machine.specs.Limits.{limits_ok, lengths_ok, sizes_ok}
use Rattle.cells.specs.Sized.{Sized}

module _ (n g m rows : ℕ) (fields colours : List ℕ) (on : sizes_ok n g m rows (length fields) (length colours) ≡ true) where
  pub sized : Sized n fields colours
  unfolding sizes_ok limits_ok lengths_ok
  sized =
      let k = hold _ on in
      let l = hold _ k.1.0 in
      record { words = sym (eqb-true _ _ l.0); bytes = sym (eqb-true _ _ l.1.0); small = leb-true _ _ (hold _ k.0).1.0 }

  pub small_n : n ≤ 4096
  unfolding sizes_ok limits_ok
  small_n = leb-true n 4096 (hold _ (hold _ on).0).1.0

  pub small_g : g ≤ 16
  unfolding sizes_ok limits_ok
  small_g = leb-true g 16 (hold _ (hold _ on).0).1.1.1.0

  pub small_m : m ≤ 8
  unfolding sizes_ok limits_ok
  small_m = leb-true m 8 (hold _ (hold _ on).0).1.1.1.1.1.1.0

  pub pages : g ≤ length colours
  unfolding sizes_ok limits_ok lengths_ok
  pages =
      let k = hold _ on in
      omega (arith, leb-true g n (hold _ k.0).1.1.1.1.0, eqb-true (length colours) n (hold _ k.1.0).1.0)

pub ruleset sizes = (sized, small_n, small_g, small_m, pages)
