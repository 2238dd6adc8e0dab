-- Rows in the desk's words.
use Rattle.std.specs.Prelude.{◌≡◌, ℕ, zero, suc, ◌+◌, ◌*◌, ◌/◌, ◌<◌, ◌≤◌, List, [], ◌∷◌, length, get_or, take, drop, ltb, MatchOption, Option, Some, None}
use Rattle.std.specs.Option.{is_some, IfSome}
use mathlib.Core.Path.{refl, sym, ap, ◌∙◌}
use native.Mathlib.Omega.{arith}
use lib.Seq.{drop-drop}
use Rattle.std.specs.Simd.{first_chunks}
use Rattle.std.proofs.lemmas.List.{get_or-take}
use borrow.Author.Tests.{ltb-true, ltb-false}
use Rattle.machine.specs.Store.{fresh_row}
use Rattle.machine.specs.declared.Row.{Row}
use Rattle.turns.specs.Plain.{row_of, rows_of, desk_of}

-- ---- a row taken out
rows-length : (k : ℕ) (words : List ℕ) → length (rows_of k words) ≡ k
unfolding rows_of
rows-length zero words = refl
rows-length (suc k) words = ap suc (rows-length k (drop 16 words))

pub desk-length : (words : List ℕ) → length (desk_of words) ≡ length words / 16
unfolding desk_of
desk-length words = rows-length (length words / 16) words

rows_at : (k : ℕ) (words : List ℕ) (i : ℕ) → i < k → get_or (rows_of k words) i fresh_row ≡ row_of (drop (i * 16) words)
unfolding rows_of
rows_at zero words i h = absurd (omega arith)
rows_at (suc k) words zero h = refl
rows_at (suc k) words (suc i) h =
    let e : 16 + i * 16 ≡ suc i * 16 = omega arith in
    rows_at k (drop 16 words) i (omega arith) ∙ ap row_of (drop-drop (i * 16) 16 words ∙ ap (λ (n : ℕ). drop n words) e)

out : (l : List Row) (i : ℕ) → length l ≤ i → get_or l i fresh_row ≡ fresh_row
out [] i h = refl
out (x ∷ l) zero h = absurd (omega arith)
out (x ∷ l) (suc i) h = out l i (omega arith)

pub desk-at : (words : List ℕ) (i : ℕ) → i < length words / 16 → get_or (desk_of words) i fresh_row ≡ row_of (drop (i * 16) words)
unfolding desk_of
desk-at words i h = rows_at (length words / 16) words i h

-- the words of a row, as `as_chunks` gives them
chunk-at : (k : ℕ) (words : List ℕ) (i : ℕ) (d : List ℕ) → i < k → get_or (first_chunks 16 k words) i d ≡ take 16 (drop (i * 16) words)
chunk-at zero words i d h = absurd (omega arith)
chunk-at (suc k) words zero d h = refl
chunk-at (suc k) words (suc i) d h =
    let e : 16 + i * 16 ≡ suc i * 16 = omega arith in
    chunk-at k (drop 16 words) i d (omega arith) ∙ ap (take 16) (drop-drop (i * 16) 16 words ∙ ap (λ (n : ℕ). drop n words) e)

pub first-16 : (words : List ℕ) → row_of (take 16 words) ≡ row_of words
unfolding row_of
first-16 words =
    let at : (i : ℕ) → i < 16 → get_or (take 16 words) i 0 ≡ get_or words i 0 = λ i h. get_or-take 16 words i 0 h in
    rw (at 0 (omega arith), at 1 (omega arith), at 2 (omega arith), at 3 (omega arith), at 4 (omega arith), at 5 (omega arith), at 6 (omega arith), at 7 (omega arith), at 8 (omega arith), at 9 (omega arith), at 10 (omega arith), at 11 (omega arith), at 12 (omega arith), at 13 (omega arith), at 14 (omega arith)) refl

pub chunk-row : (words : List ℕ) (i : ℕ) (d : List ℕ) → i < length words / 16 → row_of (get_or (first_chunks 16 (length words / 16) words) i d) ≡ get_or (desk_of words) i fresh_row
chunk-row words i d h = ap row_of (chunk-at (length words / 16) words i d h) ∙ first-16 (drop (i * 16) words) ∙ sym (desk-at words i h)

-- what was looked up, and the row that was made of it
pub row-read : {B : Type 0} (now : B → List ℕ) (words : List ℕ) (i : ℕ) (rows : List (List ℕ)) (found : Option B) (r : Row) → rows ≡ first_chunks 16 (length words / 16) words
    → is_some found ≡ ltb i (length rows) → IfSome found (λ x. now x ≡ get_or rows i (now x)) → MatchOption found (r ≡ fresh_row) (λ x. r ≡ row_of (now x)) → length rows ≡ length words / 16
    → r ≡ get_or (desk_of words) i fresh_row
row-read now words i rows (Some x) r front there at is long =
    is ∙ ap row_of (at ∙ ap (λ (rows : List (List ℕ)). get_or rows i (now x)) front) ∙ chunk-row words i (now x) (omega (arith, ltb-true i (length rows) (sym there), long))
row-read now words i rows None r front there at is long =
    is ∙ sym (out (desk_of words) i (omega (arith, desk-length words, ltb-false i (length rows) (sym there), long)))
