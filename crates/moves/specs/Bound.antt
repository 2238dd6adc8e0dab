-- The bound: C = (N + 1)² + 10 N + g + 5 working turns, the most of a cycle. The count is bounded in every stage by the
-- place, the part and the number of black cells.
use Rattle.std.specs.Prelude.{◌≡◌, ℕ, zero, suc, ◌+◌, ◌*◌, ◌≤◌, ◌<◌}
use Rattle.moves.specs.Machine.{Stage, rest, ask1, ask2, roots, scan, sweep, St}

-- C, the most working turns of a cycle
abbrev pub c_max : ℕ → ℕ → ℕ
c_max N g = (N + 1) * (N + 1) + 10 * N + g + 5

-- 1 for black, else 0
abbrev pub is_black : ℕ → ℕ
is_black zero = 0
is_black (suc zero) = 0
is_black (suc (suc zero)) = 0
is_black (suc (suc (suc n))) = 1

-- the number of black cells below n
unfoldable pub black_count : (ℕ → ℕ) → ℕ → ℕ
black_count c zero = 0
black_count c (suc n) = black_count c n + is_black (c n)

-- The bound on the count c in each stage, with K black cells. In stage 4 q stands for the passes that are over: each
-- has made a cell black, and so has this one if found is 1 and no cell is open.
abbrev pub Bound : Stage → ℕ → ℕ → ℕ → ℕ → Type 0
Bound rest N g K c = c ≤ c_max N g
Bound ask1 N g K c = c ≡ 1
Bound ask2 N g K c = c ≡ 2
Bound (roots p) N g K c = c ≡ 3 + p
Bound (scan p zero h f) N g K c = (q : ℕ) × (q + f ≤ K) × (c ≤ 4 + g + q * (N + 1) + p + 9 * K)
Bound (scan p (suc k) h f) N g K c = (q : ℕ) × (q ≤ K) × (f ≡ 1) × (c ≤ 4 + g + q * (N + 1) + p + 9 * K + suc k)
Bound (sweep p) N g K c = c ≤ 5 + g + N * (N + 1) + 10 * N + p

-- the same in a store
abbrev pub BoundIn : Stage → St → Type 0
BoundIn σ s = Bound σ s.N s.g (black_count s.colour s.N) s.count

-- the place and the part are in range
abbrev pub Placed : Stage → ℕ → ℕ → Type 0
Placed rest N g = Unit {0}
Placed ask1 N g = Unit {0}
Placed ask2 N g = Unit {0}
Placed (roots p) N g = p ≤ g
Placed (scan p zero h f) N g = p ≤ N
Placed (scan p (suc k) h f) N g = (p < N) × (suc k ≤ 9)
Placed (sweep p) N g = p ≤ N

-- the working turns of the cycle that is not over: none at rest, else the count
abbrev pub in_cycle : Stage → ℕ → ℕ
in_cycle rest c = 0
in_cycle ask1 c = c
in_cycle ask2 c = c
in_cycle (roots p) c = c
in_cycle (scan p k h f) c = c
in_cycle (sweep p) c = c
