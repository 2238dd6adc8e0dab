-- "fields parted by tabs"
use Rattle.std.specs.Prelude.{ℕ, List, eqb}
use Rattle.std.specs.List.{slice_split}
use Rattle.lines.specs.Bytes.{tab}

-- what stands between tabs: one field more than tabs, so two tabs on end have an empty field between them
abbrev pub fields : List ℕ → List (List ℕ)
fields l = slice_split (λ b. eqb b tab) l
