-- The look for the lowest free cell: what is left of the colours has the meaning of the whole.
use Prim.Native.Nat.{ℕ, zero, suc, ◌+◌, ◌*◌, ◌<◌, ◌≤◌}
use mathlib.Core.Path.{◌≡◌, refl, sym, ap, ◌∙◌}
use mathlib.Core.Bool.{true}
use mathlib.Core.List.{List, [], ◌∷◌, ◌++◌}
use native.Mathlib.Omega.{arith}
use borrow.Author.Tests.{not-true}
use lib.ListN.{length, get_or, take, drop, take-append-drop, length-drop, drop_of_length-le}
use lib.Seq.{length-take-le, drop-drop}
use lib.Dec.{leb, eqb}
use Rattle.std.proofs.Common.{Bor}
use Rattle.std.specs.Prelude.{Option, Some, None, Ok, Err, IfSome}
use Rattle.std.specs.Option.{option_map}
use Rattle.std.specs.List.{IsSubsliceAt}
use Rattle.machine.specs.Choice.{pick, all, every, differ}
use Rattle.machine.specs.ChoiceLaws.{hold}
use Rattle.machine.specs.Range.{colour_ok}
use Rattle.machine.specs.Creating.{lowest_free}
use Rattle.machine.specs.declared.Refusal.TheVariants.{BadNumber, Full}
use Rattle.cells.proofs.Looping.{drop-step}
use Rattle.writer.specs.Used.{used, Past}

pub free_step : (l : List ℕ) (i : ℕ) → i < length l → lowest_free i (drop i l) ≡ pick (eqb (get_or l i 0) 0) (Ok i) (pick (leb (get_or l i 0) 3) (lowest_free (i + 1) (drop (i + 1) l)) (Err BadNumber))
unfolding lowest_free colour_ok
free_step l i h = rw (drop-step l i h)

pub free-end : (l : List ℕ) (i : ℕ) → length l ≤ i → lowest_free i (drop i l) ≡ Err Full
unfolding lowest_free
free-end l i h = rw (drop_of_length-le l h)

pub ruleset frees = (free_step, free-end)

-- cells in use are passed over
skip : (xs ys : List ℕ) (i : ℕ) → all used xs ≡ true → lowest_free i (xs ++ ys) ≡ lowest_free (i + length xs) ys
unfolding all every used lowest_free
skip [] ys i e = let z : i ≡ i + 0 = omega arith in ap (λ (k : ℕ). lowest_free k ys) z
skip (x ∷ xs) ys i e =
    let h = hold (used x ∷ all used xs ∷ []) e in
    let k = hold (differ x 0 ∷ colour_ok x ∷ []) h.0 in
    let z : (i + 1) + length xs ≡ i + length (x ∷ xs) = omega arith in
    rw (not-true (eqb x 0) k.0, k.1.0) (skip xs ys (i + 1) h.1.0 ∙ ap (λ (k : ℕ). lowest_free k ys) z)

-- the first n stretches of k cells are in use
pub past_stretches : (l : List ℕ) (k n : ℕ) → n * k ≤ length l → ((j : ℕ) → j < n → all used (take k (drop (j * k) l)) ≡ true) → Past l (n * k)
past_stretches l k zero h e = let z : 0 * k ≡ 0 = grind arith in record { within = h; same = rw z refl }
past_stretches l k (suc n) h e =
    let p = past_stretches l k n (grind arith) (λ j b. e j (omega arith)) in
    let m : suc n * k ≡ n * k + k = grind arith in
    let w : n * k + k ≤ length l = omega arith in
    let t : length (take k (drop (n * k) l)) ≡ k = length-take-le k (drop (n * k) l) (simp length-drop (omega arith)) in
    record {
      within = h;
      same = rw m (sym (rw (take-append-drop k (drop (n * k) l), drop-drop k (n * k) l, t) at (skip (take k (drop (n * k) l)) (drop k (drop (n * k) l)) (n * k) (e n (omega arith)))) ∙ p.same);
    }

-- o is an item of a chain of which C holds: a stretch of l from i on, in use
pub stretch_used : (l : List ℕ) (k i : ℕ) (C : Bor (List ℕ) → Type 0) (o o' : Option (Bor (List ℕ))) (y : Bor (List ℕ)) → ((x : Bor (List ℕ)) → C x → true ≡ all used x.now) → option_map (λ z. z) o ≡ Some y → o' ≡ o → IfSome o C → IfSome o' (λ x. (length x.now ≡ k) × (i + k ≤ length l) × IsSubsliceAt k l i x.now) → all used (take k (drop i l)) ≡ true
stretch_used l k i C None o' y f e s p q = cc
stretch_used l k i C (Some x) o' y f e s p q = let m = rw s at q in sym (f x p ∙ ap (λ z. all used z) m.2.0)
