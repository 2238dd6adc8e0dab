-- One step of the iterator over a line's fields.
use Prim.Native.Nat.{ℕ}
use mathlib.Core.Path.{◌≡◌, refl, ◌∙◌, ap, subst}
use mathlib.Core.Bool.{Bool, true, false, cond}
use mathlib.Core.List.{List, [], ◌∷◌, ◌++◌}
use native.Mathlib.Omega.{arith}
use denote.Ref.{Bor}
use denote.Param.Members.{Mut}
use lib.Dec.{eqb}
use lib.ListN.{length, get_or}
use Rattle.std.specs.Prelude.{Option, Some, None}
use Rattle.std.specs.Bool.{MatchBool}
use Rattle.std.specs.Fn.{ComputesKey, CalledAt}
use Rattle.std.specs.List.{All, IsFirstMatchOrLen}
use Rattle.std.specs.Slice.Iter.{split_rest, split_done, split_callee, split_steps}
use Rattle.std.specs.declared.slice.Split.{Split}
use Rattle.std.proofs.lemmas.Fn.{always_returns_same}
use Rattle.std.proofs.lemmas.Grind.{common_steps}
use Rattle.std.proofs.lemmas.List.Splits.{slice_split_none, slice_split_at}
use Rattle.lines.specs.Bytes.{tab}
use Rattle.lines.specs.Fields.{fields}

-- the fields that are left
abbrev pub left : {F : Type 0} → Split ℕ F → List (List ℕ)
left i = cond (split_done i) [] (fields (split_rest i))

first : (l f rest : List ℕ) (done : Bool) → MatchBool done (l ≡ f) ((b : ℕ) × (l ≡ f ++ (b ∷ rest))) → IsFirstMatchOrLen (λ b. eqb b tab) l (length f) → fields l ≡ f ∷ cond done [] (fields rest)
first l f rest true e h = ap fields e ∙ slice_split_none (λ b. eqb b tab) f (λ k d b. subst (λ m. eqb (get_or m k d) tab ≡ false) e (h.0 k d (omega arith) b))
first l f rest false e h =
    let front : All (λ b. eqb b tab ≡ false) f = λ k d b. let a = h.0 k d (omega arith) b in let z = e.1 in grind (arith, common_steps) in
    let hit : eqb e.0 tab ≡ true = let z = e.1 in let a = h.1 (grind (arith, common_steps)) e.0 in grind (arith, common_steps) in
    ap fields e.1 ∙ slice_split_at (λ b. eqb b tab) f e.0 rest front hit

pub all_left : {F : Type 0} (i : Split ℕ F) (l : List ℕ) → split_rest i ≡ l → split_done i ≡ false → left i ≡ fields l
all_left i l e d = rw (e, d) refl

module _ {F : Type 0} (g : Mut F (Bor ℕ × Unit {0}) Bool) (i j : Split ℕ F) (r : Option (Bor (List ℕ))) (k : split_steps g i r j) where
  pub one_left : (f : Bor (List ℕ)) → r ≡ Some f → ((b : ℕ) (t : Bool) (q : F) → CalledAt g (split_callee i) b t q → (q ≡ split_callee i) × (t ≡ eqb b tab)) → left i ≡ f.now ∷ left j
  one_left f e h =
      let m = rw e at k in
      let c : ComputesKey g (λ b. eqb b tab) (split_callee i) = always_returns_same g (λ a t. t ≡ eqb a.0.now tab) (split_callee i) (λ a t q s. let z = h a.0.now t q (record { shown = a.0; shows = refl; called = s }) in (z.1, z.0)) in
      ap (λ b. cond b [] (fields (split_rest i))) m.0 ∙ first _ f.now (split_rest j) (split_done j) m.1 (m.2 (λ b. eqb b tab) c).1

  pub none_left : r ≡ None → left i ≡ []
  none_left e = let m = rw e at k in ap (λ b. cond b [] (fields (split_rest i))) m.0
