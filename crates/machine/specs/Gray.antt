-- "To gray a number".
use Rattle.std.specs.Prelude.{ℕ, List, Bool, true, length, ltb, eqb}
use Rattle.machine.specs.Choice.{pick}
use Rattle.machine.specs.Range.{colour_ok}
use Rattle.machine.specs.Parts.{colour_of, with_colour}

-- "if it is a cell and that cell is white, it becomes gray; otherwise nothing changes"
unfoldable pub grayed : List ℕ → ℕ → List ℕ
grayed colours v =
    pick (ltb v (length colours)) (pick (eqb (colour_of colours v) 1) (with_colour colours v 2) colours) colours

-- "2 for fields and colours that the turn reads": the colour that graying reads, if the number is a cell
unfoldable pub gray_ok : List ℕ → ℕ → Bool
gray_ok colours v = pick (ltb v (length colours)) (colour_ok (colour_of colours v)) true
