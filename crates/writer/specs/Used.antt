-- What the look for the lowest free cell passes over.
use Rattle.std.specs.Prelude.{ℕ, ◌≤◌, ◌≡◌, Bool, List, [], ◌∷◌, length, drop}
use Rattle.machine.specs.Choice.{differ, every}
use Rattle.machine.specs.Range.{colour_ok}
use Rattle.machine.specs.Creating.{lowest_free}

-- the colour of a cell in use: not free, and in range
unfoldable pub used : ℕ → Bool
used b = every (differ b 0 ∷ colour_ok b ∷ [])

-- a look that begins at cell i finds what one that begins at cell 0 does
pub record Past (colours : List ℕ) (i : ℕ) : Type 0 where
  pub within : i ≤ length colours
  pub same : lowest_free i (drop i colours) ≡ lowest_free 0 colours
