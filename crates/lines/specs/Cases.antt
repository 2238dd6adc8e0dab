-- The paper's whole case: each of its lines as it is read, and its output as it is written; then other lines, on both sides of each
-- rule. All by computing. A comment shows a line's text, with `→` for a tab.
use Rattle.std.specs.Prelude.{ℕ, ◌+◌, ◌≡◌, refl, List, [], ◌∷◌, ◌++◌, Option, Some, None, Ok, Err}
use Rattle.machine.specs.Choice.{all, every}
use Rattle.machine.specs.Answer.{Said, said_by, said_by_census}
use Rattle.machine.specs.declared.Call.{Call}
use Rattle.machine.specs.declared.Answer.{Answer}
use Rattle.machine.specs.declared.Refusal.TheVariants.{BadNumber, Full}
use Rattle.lines.specs.Numbers.{value_from, number_of, digits_of, decimal}
use Rattle.lines.specs.Lines.{numbers_of, command, command_of, line_of}
use Rattle.lines.specs.Output.{tabbed, parted, word_text, said_text, out_line}
use Rattle.lines.specs.declared.Line.{Line}

unfoldable pub lines_of : List (List ℕ) → List (Option Line)
lines_of [] = []
lines_of (l ∷ ls) = line_of l ∷ lines_of ls

-- output lines, one after the other, from the number k on
unfoldable pub out_lines : ℕ → List Said → List ℕ
out_lines k [] = []
out_lines k (s ∷ ss) = out_line k s ++ out_lines (k + 1) ss

pub case_read : lines_of
    ((115 ∷ 116 ∷ 97 ∷ 114 ∷ 116 ∷ 9 ∷ 50 ∷ 9 ∷ 49 ∷ 9 ∷ 49 ∷ []) ∷  -- start→2→1→1
    (99 ∷ 114 ∷ 101 ∷ 97 ∷ 116 ∷ 101 ∷ 9 ∷ 48 ∷ 9 ∷ 48 ∷ []) ∷  -- create→0→0
    (110 ∷ 101 ∷ 120 ∷ 116 ∷ 9 ∷ 48 ∷ []) ∷  -- next→0
    (110 ∷ 101 ∷ 120 ∷ 116 ∷ 9 ∷ 48 ∷ []) ∷  -- next→0
    (99 ∷ 114 ∷ 101 ∷ 97 ∷ 116 ∷ 101 ∷ 9 ∷ 48 ∷ 9 ∷ 49 ∷ []) ∷  -- create→0→1
    (100 ∷ 114 ∷ 111 ∷ 112 ∷ 9 ∷ 48 ∷ 9 ∷ 48 ∷ []) ∷  -- drop→0→0
    (99 ∷ 101 ∷ 110 ∷ 115 ∷ 117 ∷ 115 ∷ []) ∷  -- census
    [])
    ≡ Some (Line.Start 2 1 1)
    ∷ Some (Line.Write 0 (Call.Create 0))
    ∷ Some (Line.Write 0 Call.Next)
    ∷ Some (Line.Write 0 Call.Next)
    ∷ Some (Line.Write 0 (Call.Create 1))
    ∷ Some (Line.Write 0 (Call.Drop 0))
    ∷ Some Line.Census
    ∷ []
unfolding value_from number_of all every numbers_of command command_of line_of lines_of
case_read = refl

pub case_written : out_lines 1
    (said_by (Ok Answer.Done)
    ∷ said_by (Ok Answer.More)
    ∷ said_by (Ok Answer.More)
    ∷ said_by (Ok Answer.Done)
    ∷ said_by (Err Full)
    ∷ said_by (Ok Answer.Done)
    ∷ said_by_census (Ok (record { free = 0; white = 2; gray = 0; black = 0; held = 1; floating = 1 })) ∷ [])
    ≡ 49 ∷ 9 ∷ 100 ∷ 111 ∷ 110 ∷ 101 ∷ 10  -- 1→done
    ∷ 50 ∷ 9 ∷ 109 ∷ 111 ∷ 114 ∷ 101 ∷ 10  -- 2→more
    ∷ 51 ∷ 9 ∷ 109 ∷ 111 ∷ 114 ∷ 101 ∷ 10  -- 3→more
    ∷ 52 ∷ 9 ∷ 100 ∷ 111 ∷ 110 ∷ 101 ∷ 10  -- 4→done
    ∷ 53 ∷ 9 ∷ 114 ∷ 101 ∷ 102 ∷ 117 ∷ 115 ∷ 101 ∷ 100 ∷ 32 ∷ 55 ∷ 10  -- 5→refused 7
    ∷ 54 ∷ 9 ∷ 100 ∷ 111 ∷ 110 ∷ 101 ∷ 10  -- 6→done
    ∷ 55 ∷ 9 ∷ 48 ∷ 9 ∷ 50 ∷ 9 ∷ 48 ∷ 9 ∷ 48 ∷ 9 ∷ 49 ∷ 9 ∷ 49 ∷ 10  -- 7→0→2→0→0→1→1
    ∷ []
unfolding digits_of decimal tabbed parted word_text said_text out_line out_lines said_by said_by_census
case_written = refl

-- the forms that the case has not, and the largest number
pub others-read : lines_of
    ((112 ∷ 97 ∷ 103 ∷ 101 ∷ 9 ∷ 55 ∷ 9 ∷ 49 ∷ 53 ∷ 9 ∷ 51 ∷ []) ∷  -- page→7→15→3
    (99 ∷ 111 ∷ 112 ∷ 121 ∷ 9 ∷ 48 ∷ 9 ∷ 49 ∷ 9 ∷ 50 ∷ []) ∷  -- copy→0→1→2
    (114 ∷ 101 ∷ 97 ∷ 100 ∷ 9 ∷ 48 ∷ 9 ∷ 49 ∷ 9 ∷ 50 ∷ 9 ∷ 51 ∷ []) ∷  -- read→0→1→2→3
    (115 ∷ 116 ∷ 111 ∷ 114 ∷ 101 ∷ 9 ∷ 48 ∷ 9 ∷ 49 ∷ 9 ∷ 50 ∷ 9 ∷ 51 ∷ []) ∷  -- store→0→1→2→3
    (97 ∷ 110 ∷ 115 ∷ 119 ∷ 101 ∷ 114 ∷ 9 ∷ 57 ∷ 57 ∷ 57 ∷ 57 ∷ 57 ∷ []) ∷  -- answer→99999
    (110 ∷ 101 ∷ 120 ∷ 116 ∷ 9 ∷ 48 ∷ 48 ∷ 48 ∷ 48 ∷ 55 ∷ []) ∷  -- next→00007
    (99 ∷ 111 ∷ 108 ∷ 108 ∷ 101 ∷ 99 ∷ 116 ∷ []) ∷  -- collect
    [])
    ≡ Some (Line.Write 7 (Call.Page 15 3))
    ∷ Some (Line.Write 0 (Call.Copy 1 2))
    ∷ Some (Line.Write 0 (Call.Read 1 2 3))
    ∷ Some (Line.Write 0 (Call.Store 1 2 3))
    ∷ Some (Line.Write 99999 Call.Answer)
    ∷ Some (Line.Write 7 Call.Next)
    ∷ Some Line.Collect
    ∷ []
unfolding value_from number_of all every numbers_of command command_of line_of lines_of
others-read = refl

-- a number of six digits; none; one too few; one too many; two tabs; a tab at the end, or first; a space; no digit; no such word
pub none_read : lines_of
    (([]) ∷  -- the empty line
    (110 ∷ 101 ∷ 120 ∷ 116 ∷ 9 ∷ 48 ∷ 48 ∷ 48 ∷ 48 ∷ 48 ∷ 55 ∷ []) ∷  -- next→000007
    (110 ∷ 101 ∷ 120 ∷ 116 ∷ []) ∷  -- next
    (115 ∷ 116 ∷ 97 ∷ 114 ∷ 116 ∷ 9 ∷ 50 ∷ 9 ∷ 49 ∷ []) ∷  -- start→2→1
    (100 ∷ 114 ∷ 111 ∷ 112 ∷ 9 ∷ 48 ∷ 9 ∷ 48 ∷ 9 ∷ 48 ∷ []) ∷  -- drop→0→0→0
    (115 ∷ 116 ∷ 111 ∷ 114 ∷ 101 ∷ 9 ∷ 48 ∷ 9 ∷ 49 ∷ 9 ∷ 50 ∷ 9 ∷ 51 ∷ 9 ∷ 52 ∷ []) ∷  -- store→0→1→2→3→4
    (100 ∷ 114 ∷ 111 ∷ 112 ∷ 9 ∷ 9 ∷ 48 ∷ 9 ∷ 48 ∷ []) ∷  -- drop→→0→0
    (110 ∷ 101 ∷ 120 ∷ 116 ∷ 9 ∷ 48 ∷ 9 ∷ []) ∷  -- next→0→
    (9 ∷ 110 ∷ 101 ∷ 120 ∷ 116 ∷ 9 ∷ 48 ∷ []) ∷  -- →next→0
    (110 ∷ 101 ∷ 120 ∷ 116 ∷ 32 ∷ 48 ∷ []) ∷  -- next 0
    (110 ∷ 101 ∷ 120 ∷ 116 ∷ 9 ∷ 45 ∷ 49 ∷ []) ∷  -- next→-1
    (110 ∷ 101 ∷ 120 ∷ 116 ∷ 9 ∷ 48 ∷ 58 ∷ []) ∷  -- next→0:
    (115 ∷ 116 ∷ 97 ∷ 114 ∷ 116 ∷ 9 ∷ 48 ∷ 9 ∷ 49 ∷ 9 ∷ 50 ∷ 9 ∷ 51 ∷ []) ∷  -- start→0→1→2→3
    (78 ∷ 101 ∷ 120 ∷ 116 ∷ 9 ∷ 48 ∷ []) ∷  -- Next→0
    (99 ∷ 111 ∷ 108 ∷ 108 ∷ 101 ∷ 99 ∷ 116 ∷ 115 ∷ []) ∷  -- collects
    [])
    ≡ None
    ∷ None
    ∷ None
    ∷ None
    ∷ None
    ∷ None
    ∷ None
    ∷ None
    ∷ None
    ∷ None
    ∷ None
    ∷ None
    ∷ None
    ∷ None
    ∷ None
    ∷ []
unfolding value_from number_of all every numbers_of command command_of line_of lines_of
none_read = refl

-- the other answers, and the largest line number
pub others-written : out_lines 4294967293
    (said_by (Ok Answer.Worked)
    ∷ said_by (Ok Answer.Waited)
    ∷ said_by_census (Err BadNumber) ∷ [])
    ≡ 52 ∷ 50 ∷ 57 ∷ 52 ∷ 57 ∷ 54 ∷ 55 ∷ 50 ∷ 57 ∷ 51 ∷ 9 ∷ 119 ∷ 111 ∷ 114 ∷ 107 ∷ 101 ∷ 100 ∷ 10  -- 4294967293→worked
    ∷ 52 ∷ 50 ∷ 57 ∷ 52 ∷ 57 ∷ 54 ∷ 55 ∷ 50 ∷ 57 ∷ 52 ∷ 9 ∷ 119 ∷ 97 ∷ 105 ∷ 116 ∷ 101 ∷ 100 ∷ 10  -- 4294967294→waited
    ∷ 52 ∷ 50 ∷ 57 ∷ 52 ∷ 57 ∷ 54 ∷ 55 ∷ 50 ∷ 57 ∷ 53 ∷ 9 ∷ 114 ∷ 101 ∷ 102 ∷ 117 ∷ 115 ∷ 101 ∷ 100 ∷ 32 ∷ 50 ∷ 10  -- 4294967295→refused 2
    ∷ []
unfolding digits_of decimal tabbed parted word_text said_text out_line out_lines said_by said_by_census
others-written = refl
