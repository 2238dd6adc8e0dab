-- What a line of the input says.
use Rattle.std.specs.Prelude.{ℕ, List, [], ◌∷◌, ltb, length, Option, Some, None, option_map, option_and_then}
use Rattle.std.specs.Str.{bytes_eq}
use Rattle.machine.specs.Choice.{pick}
use Rattle.machine.specs.declared.Call.{Call}
use Rattle.lines.specs.Bytes as bytes
use Rattle.lines.specs.Numbers.{number_of}
use Rattle.lines.specs.Fields.{fields}
use Rattle.lines.specs.declared.Line.{Line}

-- the fields as numbers, where each is one
unfoldable pub numbers_of : List (List ℕ) → Option (List ℕ)
numbers_of [] = Some []
numbers_of (f ∷ fs) = option_and_then (λ n. option_map (λ ns. n ∷ ns) (numbers_of fs)) (number_of f)

-- a word and its numbers: no line has more than four
unfoldable pub command : List ℕ → List ℕ → Option Line
-- "collect; census"
command word [] =
    pick (bytes_eq word bytes.collect) (Some Line.Collect)
    (pick (bytes_eq word bytes.census) (Some Line.Census)
    None)
-- "answer w; next w"
command word (a ∷ []) =
    pick (bytes_eq word bytes.next) (Some (Line.Write a Call.Next))
    (pick (bytes_eq word bytes.answer) (Some (Line.Write a Call.Answer))
    None)
-- "drop w r", "create w s"
command word (a ∷ b ∷ []) =
    pick (bytes_eq word bytes.drop) (Some (Line.Write a (Call.Drop b)))
    (pick (bytes_eq word bytes.create) (Some (Line.Write a (Call.Create b)))
    None)
-- "start N g M; page w p s; copy w r s"
command word (a ∷ b ∷ c ∷ []) =
    pick (bytes_eq word bytes.copy) (Some (Line.Write a (Call.Copy b c)))
    (pick (bytes_eq word bytes.page) (Some (Line.Write a (Call.Page b c)))
    (pick (bytes_eq word bytes.start) (Some (Line.Start a b c))
    None))
-- "read w r f s; store w r f q"
command word (a ∷ b ∷ c ∷ d ∷ []) =
    pick (bytes_eq word bytes.read) (Some (Line.Write a (Call.Read b c d)))
    (pick (bytes_eq word bytes.store) (Some (Line.Write a (Call.Store b c d)))
    None)
command word (a ∷ b ∷ c ∷ d ∷ e ∷ ns) = None

-- a word, and fields that are numbers
unfoldable pub command_of : List (List ℕ) → Option Line
command_of [] = None
command_of (w ∷ fs) = option_and_then (command w) (numbers_of fs)

-- "It reads lines of at most 64 bytes"; "a line of no such form, an empty or a longer one too" is none
unfoldable pub line_of : List ℕ → Option Line
line_of l = pick (ltb 64 (length l)) None (command_of (fields l))
