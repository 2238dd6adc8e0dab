-- What an output line is.
use Rattle.std.specs.Prelude.{ℕ, List, [], ◌∷◌, ◌++◌, Result, Ok, Err}
use Rattle.machine.specs.Answer.{Word, done, more, worked, waited, refused, counts, Said, said_by, said_by_census}
use Rattle.machine.specs.declared.Refusal.{Refusal}
use Rattle.lines.specs.declared.Reply.{Reply}
use Rattle.lines.specs.Bytes as bytes
use Rattle.lines.specs.Numbers.{decimal}

-- a number and a tab
unfoldable pub tabbed : ℕ → List ℕ
tabbed n = decimal n ++ bytes.tab ∷ []

-- numbers "parted by tabs"
unfoldable pub parted : List ℕ → List ℕ
parted [] = []
parted (n ∷ []) = decimal n
parted (n ∷ m ∷ ns) = tabbed n ++ parted (m ∷ ns)

-- "done, more (job unfinished), worked, waited or "refused" with a space and a number; a census prints instead its six counts in
-- the order above, parted by tabs"
unfoldable pub word_text : Word → List ℕ → List ℕ
word_text done ns = bytes.done
word_text more ns = bytes.more
word_text worked ns = bytes.worked
word_text waited ns = bytes.waited
word_text refused ns = bytes.refused ++ parted ns
word_text counts ns = parted ns

unfoldable pub said_text : Said → List ℕ
said_text s = word_text s.word s.numbers

-- what the reply to a line says
unfoldable pub said_of : Result Reply Refusal → Said
said_of (Ok (Reply.Answered a)) = said_by (Ok a)
said_of (Ok (Reply.Counted c)) = said_by_census (Ok c)
said_of (Err k) = said_by (Err k)

-- "Each line gives one output line: its number from 1, a tab, then" what is said; byte 10 ends it
unfoldable pub out_line : ℕ → Said → List ℕ
out_line number s = tabbed number ++ said_text s ++ bytes.line_end ∷ []
