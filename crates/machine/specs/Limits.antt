-- "Numbers of the store": their limits and the lent lengths, which are refusal 1's.
use Rattle.std.specs.Prelude.{ℕ, ◌*◌, [], ◌∷◌, Bool, leb, eqb}
use Rattle.machine.specs.Choice.{every}

-- "A field or slot holds a cell number or none (65,535)."
abbrev pub none : ℕ
none = 65535

-- "Cells N: 1 to 4,096. Pages g: 1 to 16 and at most N. Writers M: 1 to 8."
unfoldable pub limits_ok : ℕ → ℕ → ℕ → Bool
limits_ok n g m = every (leb 1 n ∷ leb n 4096 ∷ leb 1 g ∷ leb g 16 ∷ leb g n ∷ leb 1 m ∷ leb m 8 ∷ [])

-- "Fields are lent as 4N 16-bit words. Colours are lent as N bytes. The desk is a lent slice with one row per writer."
unfoldable pub lengths_ok : ℕ → ℕ → ℕ → ℕ → ℕ → Bool
lengths_ok n m rows words bytes = every (eqb words (n * 4) ∷ eqb bytes n ∷ eqb rows m ∷ [])

-- "1: N, g or M out of limits, or a lent length differs from 4N, N or M": what holds where it isn't given
unfoldable pub sizes_ok : ℕ → ℕ → ℕ → ℕ → ℕ → ℕ → Bool
sizes_ok n g m rows words bytes = every (limits_ok n g m ∷ lengths_ok n m rows words bytes ∷ [])
