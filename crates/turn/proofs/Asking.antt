-- What is asked of each row in a loop.
use Rattle.std.specs.Prelude.{◌≡◌, ℕ, zero, suc, ◌+◌, ◌<◌, ◌≤◌, ◌&&◌, Bool, true, false, List, [], ◌∷◌, length, get_or, take}
use Rattle.std.specs.List.{list_all}
use Rattle.std.proofs.Common.{refl, ◌∙◌, arith}
use Rattle.std.proofs.lemmas.List.{take_all}
use native.Mathlib.Numerals.{add-one}

-- one row more is asked; d is what an index past the end would read
more : {A : Type 0} (t : A → Bool) (rows : List A) (d : A) (i : ℕ) → i < length rows → (list_all t (take i rows) && t (get_or rows i d)) ≡ list_all t (take (suc i) rows)
more t [] d i h = absurd (omega arith)
more t (x ∷ rows) d zero h = go (t x)
  where
    go : (b : Bool) → b ≡ (b && true)
    go true = refl
    go false = refl
more t (x ∷ rows) d (suc i) h = go (t x) (more t rows d i (omega arith))
  where
    go : (b : Bool) → (list_all t (take i rows) && t (get_or rows i d)) ≡ list_all t (take (suc i) rows) → ((b && list_all t (take i rows)) && t (get_or rows i d)) ≡ (b && list_all t (take (suc i) rows))
    go true e = e
    go false e = refl

pub asked_more : {A : Type 0} (t : A → Bool) (rows : List A) (d : A) (i : ℕ) (b : Bool) → i < length rows → b ≡ list_all t (take i rows) → (b && t (get_or rows i d)) ≡ list_all t (take (i + 1) rows)
asked_more t rows d i b h e = rw (e, add-one i) (more t rows d i h)

pub asked_all : {A : Type 0} (t : A → Bool) (rows : List A) (i : ℕ) (b : Bool) → length rows ≤ i → b ≡ list_all t (take i rows) → b ≡ list_all t rows
asked_all t rows i b h e = e ∙ rw (take_all i rows h)
