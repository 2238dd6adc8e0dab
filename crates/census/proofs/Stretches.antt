-- A test of each element of a list, stretch by stretch.
use Rattle.std.specs.Prelude.{◌≡◌, ◌&&◌, ℕ, zero, suc, ◌+◌, ◌*◌, Bool, true, false, List, [], ◌∷◌, take, drop}
use Rattle.std.specs.List.{list_all}
use Rattle.std.specs.Simd.{first_chunks}
use Rattle.std.proofs.Common.{refl, sym, ap, ◌∙◌, arith}
use lib.Seq.{drop-drop}
use Rattle.machine.specs.Choice.{every}

-- of the first n, and of the others
cut : (t : ℕ → Bool) (n : ℕ) (l : List ℕ) → list_all t l ≡ (list_all t (take n l) && list_all t (drop n l))
cut t zero l = refl
cut t (suc n) [] = refl
cut t (suc n) (x ∷ l) = go (t x) (cut t n l)
  where
    go : (b : Bool) → list_all t l ≡ (list_all t (take n l) && list_all t (drop n l)) → (b && list_all t l) ≡ ((b && list_all t (take n l)) && list_all t (drop n l))
    go true e = e
    go false e = refl

and_also : (a b c : Bool) → ((a && b) && c) ≡ (a && (b && c))
and_also true b c = refl
and_also false b c = refl

stretches : (t : ℕ → Bool) (n k : ℕ) (l : List ℕ) → (list_all (list_all t) (first_chunks n k l) && list_all t (drop (k * n) l)) ≡ list_all t l
stretches t n zero l = let e : 0 * n ≡ 0 = grind arith in rw e refl
stretches t n (suc k) l =
    let e : n + k * n ≡ suc k * n = grind arith in
    let left : drop (suc k * n) l ≡ drop (k * n) (drop n l) = sym (drop-drop (k * n) n l ∙ ap (λ m. drop m l) e) in
    and_also (list_all t (take n l)) _ _ ∙ ap (λ b. list_all t (take n l) && (list_all (list_all t) (first_chunks n k (drop n l)) && list_all t b)) left
    ∙ ap (λ b. list_all t (take n l) && b) (stretches t n k (drop n l)) ∙ sym (cut t n l)

every_and : (a b : Bool) → every (a ∷ b ∷ []) ≡ (a && b)
unfolding every
every_and true true = refl
every_and true false = refl
every_and false b = refl

-- of all stretches, and of what is left after them
pub stretched : (t : ℕ → Bool) (n k : ℕ) (l left : List ℕ) (a b r : Bool) → r ≡ every (a ∷ b ∷ []) → a ≡ list_all (list_all t) (first_chunks n k l) → left ≡ drop (k * n) l → b ≡ list_all t left → r ≡ list_all t l
stretched t n k l left a b r e f d g =
    e ∙ every_and a b ∙ ap (λ x. x && b) f ∙ ap (λ y. list_all (list_all t) (first_chunks n k l) && y) (g ∙ ap (list_all t) d) ∙ stretches t n k l
