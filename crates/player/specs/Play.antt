-- What a text is answered with.
use Rattle.std.specs.Prelude.{ℕ, ◌+◌, ◌≤◌, List, [], ◌∷◌, ◌++◌, Bool, leb, eqb, length, nat_lt}
use Rattle.machine.specs.Choice.{pick}
use Rattle.lines.specs.Bytes.{line_end}
use Rattle.lines.specs.Lines.{line_of}
use Rattle.lines.specs.Output.{out_line}
use Rattle.player.specs.Game.{Game, unstarted, line_step}
use Rattle.player.specs.Own.{game}
use Rattle.player.specs.declared.feed.Player.{Player}

-- "bytes after the last such byte are a line too"
unfoldable pub last_line : List ℕ → List (List ℕ)
last_line [] = []
last_line (b ∷ bs) = (b ∷ bs) ∷ []

-- "each ends at byte 10, which isn't counted": the lines of a text, of whose first line the bytes acc were read already
unfoldable pub lines_from : List ℕ → List ℕ → List (List ℕ)
lines_from acc [] = last_line acc
lines_from acc (b ∷ bs) = pick (eqb b line_end) (acc ∷ lines_from [] bs) (lines_from (acc ++ b ∷ []) bs)

-- "Each line gives one output line: its number from 1"; "After output line 4,294,967,295 the player ends.": the output for lines, when
-- k lines were answered already
unfoldable pub play_lines : Game → ℕ → List (List ℕ) → List ℕ
play_lines g k [] = []
play_lines g k (l ∷ ls) =
    pick (leb 4294967295 k) []
    (out_line (k + 1) (line_step g (line_of l)).said ++ play_lines (line_step g (line_of l)).game (k + 1) ls)

-- the output for a text
unfoldable pub play_text : Game → List ℕ → List ℕ
play_text g bs = play_lines g 0 (lines_from [] bs)

-- THE PLAYER: the output is a function of the input
unfoldable pub played : List ℕ → List ℕ
played bs = play_text unstarted bs

-- ---- the player between two bytes
-- what it has not written yet
abbrev pub output : Player → List ℕ
output p = p.out.items

-- the bytes of a line that has no end yet
abbrev pub unended : Player → List ℕ
unended p = p.line.items

-- there is room for an output line
abbrev pub HasRoom : Player → Type 0
HasRoom p = length (output p) + 77 ≤ 65536

-- "After output line 4,294,967,295 the player ends."
abbrev pub goes_on : Player → Bool
goes_on p = nat_lt p.count 4294967295

-- what is still to be written when the bytes bs follow
unfoldable pub total : Player → List ℕ → List ℕ
total p bs = output p ++ play_lines (game p.store) p.count (lines_from p.line.items bs)
