-- Whole texts and their output, byte for byte. All by computing. A comment shows a line's text, with `→` for a tab.
use Rattle.std.specs.Prelude.{ℕ, ◌≡◌, refl, List, [], ◌∷◌, ◌++◌, replicate}
use Rattle.machine.specs.Choice.{all, every, refuse}
use Rattle.machine.specs.Limits.{limits_ok, lengths_ok, sizes_ok}
use Rattle.machine.specs.Stage.{tracing, hand}
use Rattle.machine.specs.Range.{place_ok, part_ok, value_ok, hold_ok, found_ok, record_ok, status_ok, colour_ok, made_ok, work_ok, job_ok, row_ok}
use Rattle.machine.specs.Parts.{with_slot, with_job}
use Rattle.machine.specs.Store.{fits, fresh}
use Rattle.machine.specs.Turns.{sound_ok}
use Rattle.machine.specs.Slots.{drop}
use Rattle.machine.specs.Creating.{lowest_free, emptied, take_cell, take, create, decided, look, next_creating}
use Rattle.machine.specs.Writer.{next_work, next_job, next, turn_of}
use Rattle.machine.specs.Machine.{write}
use Rattle.machine.specs.Census.{pages, slots, left_over, tally, in_use, unreached, counts, census}
use Rattle.machine.specs.Answer.{said_by, said_by_census}
use Rattle.lines.specs.Numbers.{value_from, number_of, digits_of, decimal}
use Rattle.lines.specs.Lines.{numbers_of, command, command_of, line_of}
use Rattle.lines.specs.Output.{tabbed, parted, word_text, said_text, out_line}
use Rattle.player.specs.Game.{line_step}
use Rattle.player.specs.Play.{last_line, lines_from, play_lines, play_text, played}

-- the paper's whole case, whose last line has no end
abbrev pub case_text : List ℕ
case_text =
    115 ∷ 116 ∷ 97 ∷ 114 ∷ 116 ∷ 9 ∷ 50 ∷ 9 ∷ 49 ∷ 9 ∷ 49 ∷ 10  -- start→2→1→1
    ∷ 99 ∷ 114 ∷ 101 ∷ 97 ∷ 116 ∷ 101 ∷ 9 ∷ 48 ∷ 9 ∷ 48 ∷ 10  -- create→0→0
    ∷ 110 ∷ 101 ∷ 120 ∷ 116 ∷ 9 ∷ 48 ∷ 10  -- next→0
    ∷ 110 ∷ 101 ∷ 120 ∷ 116 ∷ 9 ∷ 48 ∷ 10  -- next→0
    ∷ 99 ∷ 114 ∷ 101 ∷ 97 ∷ 116 ∷ 101 ∷ 9 ∷ 48 ∷ 9 ∷ 49 ∷ 10  -- create→0→1
    ∷ 100 ∷ 114 ∷ 111 ∷ 112 ∷ 9 ∷ 48 ∷ 9 ∷ 48 ∷ 10  -- drop→0→0
    ∷ 99 ∷ 101 ∷ 110 ∷ 115 ∷ 117 ∷ 115  -- census
    ∷ []

abbrev pub case_output : List ℕ
case_output =
    49 ∷ 9 ∷ 100 ∷ 111 ∷ 110 ∷ 101 ∷ 10  -- 1→done
    ∷ 50 ∷ 9 ∷ 109 ∷ 111 ∷ 114 ∷ 101 ∷ 10  -- 2→more
    ∷ 51 ∷ 9 ∷ 109 ∷ 111 ∷ 114 ∷ 101 ∷ 10  -- 3→more
    ∷ 52 ∷ 9 ∷ 100 ∷ 111 ∷ 110 ∷ 101 ∷ 10  -- 4→done
    ∷ 53 ∷ 9 ∷ 114 ∷ 101 ∷ 102 ∷ 117 ∷ 115 ∷ 101 ∷ 100 ∷ 32 ∷ 55 ∷ 10  -- 5→refused 7
    ∷ 54 ∷ 9 ∷ 100 ∷ 111 ∷ 110 ∷ 101 ∷ 10  -- 6→done
    ∷ 55 ∷ 9 ∷ 48 ∷ 9 ∷ 50 ∷ 9 ∷ 48 ∷ 9 ∷ 48 ∷ 9 ∷ 49 ∷ 9 ∷ 49 ∷ 10  -- 7→0→2→0→0→1→1
    ∷ []

-- after a line of 65 bytes: lines that are refused before a start, and a refused start, which leaves the store as it is
abbrev pub other_text : List ℕ
other_text =
    replicate 65 97
    ++ 10 ∷ 10  -- its end, and the empty line
    ∷ 99 ∷ 101 ∷ 110 ∷ 115 ∷ 117 ∷ 115 ∷ 10  -- census
    ∷ 115 ∷ 116 ∷ 97 ∷ 114 ∷ 116 ∷ 9 ∷ 50 ∷ 9 ∷ 49 ∷ 9 ∷ 49 ∷ 10  -- start→2→1→1
    ∷ 115 ∷ 116 ∷ 97 ∷ 114 ∷ 116 ∷ 9 ∷ 49 ∷ 9 ∷ 50 ∷ 9 ∷ 49 ∷ 10  -- start→1→2→1
    ∷ 99 ∷ 101 ∷ 110 ∷ 115 ∷ 117 ∷ 115  -- census
    ∷ []

abbrev pub other_output : List ℕ
other_output =
    49 ∷ 9 ∷ 114 ∷ 101 ∷ 102 ∷ 117 ∷ 115 ∷ 101 ∷ 100 ∷ 32 ∷ 56 ∷ 10  -- 1→refused 8
    ∷ 50 ∷ 9 ∷ 114 ∷ 101 ∷ 102 ∷ 117 ∷ 115 ∷ 101 ∷ 100 ∷ 32 ∷ 56 ∷ 10  -- 2→refused 8
    ∷ 51 ∷ 9 ∷ 114 ∷ 101 ∷ 102 ∷ 117 ∷ 115 ∷ 101 ∷ 100 ∷ 32 ∷ 49 ∷ 10  -- 3→refused 1
    ∷ 52 ∷ 9 ∷ 100 ∷ 111 ∷ 110 ∷ 101 ∷ 10  -- 4→done
    ∷ 53 ∷ 9 ∷ 114 ∷ 101 ∷ 102 ∷ 117 ∷ 115 ∷ 101 ∷ 100 ∷ 32 ∷ 49 ∷ 10  -- 5→refused 1
    ∷ 54 ∷ 9 ∷ 49 ∷ 9 ∷ 49 ∷ 9 ∷ 48 ∷ 9 ∷ 48 ∷ 9 ∷ 49 ∷ 9 ∷ 48 ∷ 10  -- 6→1→1→0→0→1→0
    ∷ []

-- "bytes after the last such byte are a line too": the case with and without its last line's end
pub cases : (played case_text ≡ case_output) × (played (case_text ++ 10 ∷ []) ≡ case_output) × (played other_text ≡ other_output)
unfolding all every refuse limits_ok lengths_ok sizes_ok tracing hand place_ok part_ok value_ok hold_ok found_ok record_ok status_ok colour_ok made_ok work_ok job_ok row_ok with_slot with_job fits fresh sound_ok drop lowest_free emptied take_cell take create decided look next_creating next_work next_job next turn_of write pages slots left_over tally in_use unreached counts census said_by said_by_census value_from number_of digits_of decimal numbers_of command command_of line_of tabbed parted word_text said_text out_line line_step last_line lines_from play_lines play_text played
cases = (refl, refl, refl)
