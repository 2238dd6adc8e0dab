-- Decimal numbers: read from a field, and written.
use Rattle.std.specs.Prelude.{ℕ, zero, suc, ◌+◌, ◌*◌, ◌-◌, ◌/◌, ◌%◌, List, [], ◌∷◌, ltb, leb, length, Option, Some, None}
use Rattle.std.specs.Char.{is_ascii_digit}
use Rattle.machine.specs.Choice.{pick, all, every}

-- what the digits are worth after others worth v
unfoldable pub value_from : ℕ → List ℕ → ℕ
value_from v [] = v
value_from v (b ∷ bs) = value_from (v * 10 + (b - 48)) bs

-- "decimal numbers of 1 to 5 digits"
unfoldable pub number_of : List ℕ → Option ℕ
number_of f =
    pick (every (leb 1 (length f) ∷ leb (length f) 5 ∷ all is_ascii_digit f ∷ []))
    (Some (value_from 0 f))
    None

-- the last k digits of n, without zeros in front, before those of acc
unfoldable pub digits_of : ℕ → ℕ → List ℕ → List ℕ
digits_of zero n acc = acc
digits_of (suc k) n acc = pick (ltb n 10) ((48 + n) ∷ acc) (digits_of k (n / 10) ((48 + n % 10) ∷ acc))

-- a number as it is written; every u32 has at most 10 digits
unfoldable pub decimal : ℕ → List ℕ
decimal n = digits_of 10 n []
