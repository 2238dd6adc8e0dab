-- The bytes of the text: the words of its lines and of its output lines.
use Rattle.std.specs.Prelude.{ℕ, List, [], ◌∷◌}

abbrev pub tab : ℕ
tab = 9

abbrev pub line_end : ℕ
line_end = 10

-- "start N g M; page w p s; copy w r s; drop w r; read w r f s; store w r f q; create w s; answer w; next w; collect; census"
abbrev pub start : List ℕ
start = 115 ∷ 116 ∷ 97 ∷ 114 ∷ 116 ∷ []

abbrev pub page : List ℕ
page = 112 ∷ 97 ∷ 103 ∷ 101 ∷ []

abbrev pub copy : List ℕ
copy = 99 ∷ 111 ∷ 112 ∷ 121 ∷ []

abbrev pub drop : List ℕ
drop = 100 ∷ 114 ∷ 111 ∷ 112 ∷ []

abbrev pub read : List ℕ
read = 114 ∷ 101 ∷ 97 ∷ 100 ∷ []

abbrev pub store : List ℕ
store = 115 ∷ 116 ∷ 111 ∷ 114 ∷ 101 ∷ []

abbrev pub create : List ℕ
create = 99 ∷ 114 ∷ 101 ∷ 97 ∷ 116 ∷ 101 ∷ []

abbrev pub answer : List ℕ
answer = 97 ∷ 110 ∷ 115 ∷ 119 ∷ 101 ∷ 114 ∷ []

abbrev pub next : List ℕ
next = 110 ∷ 101 ∷ 120 ∷ 116 ∷ []

abbrev pub collect : List ℕ
collect = 99 ∷ 111 ∷ 108 ∷ 108 ∷ 101 ∷ 99 ∷ 116 ∷ []

abbrev pub census : List ℕ
census = 99 ∷ 101 ∷ 110 ∷ 115 ∷ 117 ∷ 115 ∷ []

-- "then done, more (job unfinished), worked, waited or "refused" with a space and a number"
abbrev pub done : List ℕ
done = 100 ∷ 111 ∷ 110 ∷ 101 ∷ []

abbrev pub more : List ℕ
more = 109 ∷ 111 ∷ 114 ∷ 101 ∷ []

abbrev pub worked : List ℕ
worked = 119 ∷ 111 ∷ 114 ∷ 107 ∷ 101 ∷ 100 ∷ []

abbrev pub waited : List ℕ
waited = 119 ∷ 97 ∷ 105 ∷ 116 ∷ 101 ∷ 100 ∷ []

-- with its space
abbrev pub refused : List ℕ
refused = 114 ∷ 101 ∷ 102 ∷ 117 ∷ 115 ∷ 101 ∷ 100 ∷ 32 ∷ []
