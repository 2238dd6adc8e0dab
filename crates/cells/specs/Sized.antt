-- What the turns by value ask of their caller: that the lent lengths fit N. Refusal 1 has seen to it.
use Rattle.std.specs.Prelude.{ℕ, ◌*◌, ◌≤◌, ◌≡◌, List, length}

pub record Sized (n : ℕ) (fields colours : List ℕ) : Type 0 where
  pub words : n * 4 ≡ length fields
  pub bytes : n ≡ length colours
  pub small : n ≤ 4096
