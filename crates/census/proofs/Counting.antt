-- Counting: the marks, and the colours.
use Rattle.std.specs.Prelude.{◌≡◌, ℕ, zero, suc, ◌+◌, ◌<◌, ◌≤◌, Bool, true, false, eqb, ◌≢◌, List, [], ◌∷◌, length, get_or, take, replicate}
use mathlib.Core.Path.{refl, sym, ap, ◌∙◌}
use native.Mathlib.Omega.{arith}
use native.Mathlib.Numerals.{add-one}
use native.Mathlib.Decide.{ℕ_discrete}
use borrow.Author.Tests.{eq-eqb, ne_eqb}
use Rattle.std.proofs.lemmas.Bool.{false_from_ne_true}
use mir.Val.{bool_byte}
use Rattle.std.proofs.lemmas.List.{length-take}
use Rattle.machine.specs.Choice.{pick}
use Rattle.machine.specs.Parts.{colour_of}
use Rattle.machine.specs.Census.{tally, in_use}
use Rattle.census.specs.Room.{unmarked}

-- ---- marks: if the marked cells are those in use that are not left over, they are as many
none_left : (r : List ℕ) → ((c : ℕ) → colour_of r c ≡ 0) → in_use r ≡ 0
unfolding in_use
none_left [] h = refl
none_left (x ∷ xs) h = rw (eq-eqb x 0 (h 0)) (none_left xs (λ c. h (suc c)))

abbrev head : List ℕ → ℕ
head l = colour_of l 0

tail : List ℕ → List ℕ
tail [] = []
tail (x ∷ xs) = xs

used-split : (r : List ℕ) → in_use r ≡ pick (eqb (head r) 0) (in_use (tail r)) (suc (in_use (tail r)))
unfolding in_use tail
used-split [] = refl
used-split (x ∷ xs) = refl

tail_at : (r : List ℕ) (c : ℕ) → colour_of (tail r) c ≡ colour_of r (suc c)
unfolding tail
tail_at [] c = refl
tail_at (x ∷ xs) c = refl

pub marks-count : (l r : List ℕ) (m : List Bool) → length l ≤ length m → ((c : ℕ) → get_or m c false ≡ true → (colour_of l c ≢ 0) × (colour_of r c ≡ 0)) → ((c : ℕ) → colour_of l c ≢ 0 → colour_of r c ≡ 0 → get_or m c false ≡ true) → ((c : ℕ) → colour_of r c ≢ 0 → colour_of l c ≢ 0)
    → in_use r + length l ≡ in_use l + unmarked m (length l)
unfolding in_use unmarked
marks-count [] r m b f g h = let e = none_left r (λ c. zero-at c (ℕ_discrete (colour_of r c) 0)) in omega arith
  where
    zero-at : (c : ℕ) → Dec (colour_of r c ≡ 0) → colour_of r c ≡ 0
    zero-at c (yes e) = e
    zero-at c (no n) = absurd (h c n refl)
marks-count (x ∷ xs) r [] b f g h = absurd (omega arith)
marks-count (x ∷ xs) r (y ∷ m) b f g h =
    rw (used-split r)
    (go (ℕ_discrete x 0) (ℕ_discrete (head r) 0)
    (marks-count xs (tail r) m (omega arith)
    (λ c p. let k = f (suc c) p in (k.0, tail_at r c ∙ k.1))
    (λ c u q. g (suc c) u (sym (tail_at r c) ∙ q))
    (λ c u. h (suc c) (λ q. u (tail_at r c ∙ q)))))
  where
    go : Dec (x ≡ 0) → Dec (head r ≡ 0) → in_use (tail r) + length xs ≡ in_use xs + unmarked m (length xs) → pick (eqb (head r) 0) (in_use (tail r)) (suc (in_use (tail r))) + suc (length xs) ≡ in_use (x ∷ xs) + unmarked (y ∷ m) (suc (length xs))
    go (yes e) (yes q) z = rw (eq-eqb x 0 e, eq-eqb (head r) 0 q, false_from_ne_true y (λ o. (f 0 o).0 e), in_use, unmarked) (omega arith)
    go (yes e) (no q) z = absurd (h 0 q e)
    go (no e) (yes q) z = rw (ne_eqb x 0 e, eq-eqb (head r) 0 q, g 0 e q, in_use, unmarked) (omega arith)
    go (no e) (no q) z = rw (ne_eqb x 0 e, ne_eqb (head r) 0 q, false_from_ne_true y (λ o. q (f 0 o).1), in_use, unmarked) (omega arith)

-- where no cell is marked, none is
pub blank : (n c : ℕ) → get_or (replicate n false) c false ≡ false
blank zero c = refl
blank (suc n) zero = refl
blank (suc n) (suc c) = blank n c

-- ---- colours
tally-le : (b : ℕ) (l : List ℕ) → tally b l ≤ length l
unfolding tally
tally-le b [] = omega arith
tally-le b (c ∷ cs) = go (eqb c b) (tally-le b cs)
  where
    go : (t : Bool) → tally b cs ≤ length cs → pick t (suc (tally b cs)) (tally b cs) ≤ suc (length cs)
    go true h = omega arith
    go false h = omega arith

-- one cell more
tally-suc : (b : ℕ) (l : List ℕ) (i : ℕ) → i < length l → tally b (take (suc i) l) ≡ tally b (take i l) + bool_byte (eqb (get_or l i 0) b)
unfolding tally
tally-suc b [] i h = absurd (omega arith)
tally-suc b (c ∷ cs) zero h = go (eqb c b)
  where
    go : (t : Bool) → pick t 1 0 ≡ 0 + bool_byte t
    go true = refl
    go false = refl
tally-suc b (c ∷ cs) (suc i) h = go (eqb c b) (tally-suc b cs i (omega arith))
  where
    go : (t : Bool) → tally b (take (suc i) cs) ≡ tally b (take i cs) + bool_byte (eqb (get_or cs i 0) b) → pick t (suc (tally b (take (suc i) cs))) (tally b (take (suc i) cs)) ≡ pick t (suc (tally b (take i cs))) (tally b (take i cs)) + bool_byte (eqb (get_or cs i 0) b)
    go true e = omega arith
    go false e = omega arith

pub tally_none : (b : ℕ) → tally b [] ≡ 0
unfolding tally
tally_none b = refl

module _ (b : ℕ) (l : List ℕ) (i k : ℕ) (e : k ≡ tally b (take i l)) (h : i < length l) where
  pub tally_more : k + bool_byte (eqb (get_or l i 0) b) ≡ tally b (take (i + 1) l)
  tally_more = rw (add-one i) (e' ∙ sym (tally-suc b l i h))
    where
      e' : k + bool_byte (eqb (get_or l i 0) b) ≡ tally b (take i l) + bool_byte (eqb (get_or l i 0) b)
      e' = ap (λ (n : ℕ). n + bool_byte (eqb (get_or l i 0) b)) e

  pub tally_fits : length l ≤ 4096 → k + bool_byte (eqb (get_or l i 0) b) < 65536
  tally_fits m = omega (arith, tally_more, tally-le b (take (i + 1) l), length-take (i + 1) l)

-- free cells and cells in use make all
pub free_used : (l : List ℕ) → tally 0 l + in_use l ≡ length l
unfolding tally in_use
free_used [] = refl
free_used (c ∷ cs) = go (eqb c 0) (free_used cs)
  where
    go : (t : Bool) → tally 0 cs + in_use cs ≡ length cs → pick t (suc (tally 0 cs)) (tally 0 cs) + pick t (in_use cs) (suc (in_use cs)) ≡ suc (length cs)
    go true h = omega arith
    go false h = omega arith

pub ruleset counting = (tally_none, tally_more, tally_fits, free_used)
