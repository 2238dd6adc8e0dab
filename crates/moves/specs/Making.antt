-- A black cell below the hand is one in the making.
use Rattle.std.specs.Prelude.{◌≡◌, ◌≢◌, ℕ, ◌<◌}
use Rattle.moves.specs.Machine.{Stage, Made, kept, Job, creating, St, hand}

-- the job creates x, and has not decided keep
abbrev pub Makes : Job → ℕ → Type 0
Makes j x = (m : Made) × (k : ℕ) × (j ≡ creating m x k) × (m ≢ kept)

-- A black cell below the hand is one that a writer creates and has not decided to keep. So in stages 0 to 2, and behind the
-- sweep, no other cell is black.
abbrev pub Blacks : Stage → St → Type 0
Blacks σ s = (x : ℕ) → x < hand s.N σ → s.colour x ≡ 3 → (w : ℕ) × (w < s.M) × Makes (s.rows w).job x
