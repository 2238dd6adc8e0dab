-- The loop over a line's fields: what the whole line says, by its word, the numbers so far and the fields that are left.
use Prim.Native.Nat.{ℕ, ◌≤◌, ◌<◌}
use mathlib.Core.Path.{◌≡◌, refl, sym, ◌∙◌}
use mathlib.Core.List.{List, [], ◌∷◌, ◌++◌, append_assoc, append-nil}
use native.Mathlib.Omega.{arith}
use borrow.Author.Tests.{le-ltb, lt-ltb}
use lib.ListN.{length, length-append}
use Rattle.std.specs.Prelude.{Option, Some, None, option_and_then, option_map}
use Rattle.lines.specs.Numbers.{number_of}
use Rattle.lines.specs.Fields.{fields}
use Rattle.lines.specs.Lines.{numbers_of, command, command_of, line_of}
use Rattle.lines.specs.declared.Line.{Line}
use Rattle.lines.proofs.Commands.{too_many}

-- the numbers ns, and then those of the fields
abbrev pub with_fields : List ℕ → List ℕ → List (List ℕ) → Option Line
with_fields word ns fs = option_and_then (λ ms. command word (ns ++ ms)) (numbers_of fs)

no_more : (word ns : List ℕ) → with_fields word ns [] ≡ command word ns
unfolding numbers_of
no_more word ns = rw append-nil refl

one_more : (word ns f : List ℕ) (n : ℕ) (fs : List (List ℕ)) → number_of f ≡ Some n → with_fields word ns (f ∷ fs) ≡ with_fields word (ns ++ n ∷ []) fs
unfolding numbers_of
one_more word ns f n fs e = rw e (go (numbers_of fs))
  where
    go : (o : Option (List ℕ)) → option_and_then (λ ms. command word (ns ++ ms)) (option_map (λ ms. n ∷ ms) o) ≡ option_and_then (λ ms. command word ((ns ++ n ∷ []) ++ ms)) o
    go None = refl
    go (Some ms) = rw append_assoc refl

no_number : (word ns f : List ℕ) (fs : List (List ℕ)) → number_of f ≡ None → with_fields word ns (f ∷ fs) ≡ None
unfolding numbers_of
no_number word ns f fs e = rw e refl

five : (word ns f : List ℕ) (fs : List (List ℕ)) → length ns ≡ 4 → with_fields word ns (f ∷ fs) ≡ None
unfolding numbers_of
five word ns f fs l = go (number_of f) (numbers_of fs)
  where
    go : (o : Option ℕ) (p : Option (List ℕ)) → option_and_then (λ ms. command word (ns ++ ms)) (option_and_then (λ n. option_map (λ ms. n ∷ ms) p) o) ≡ None
    go None p = refl
    go (Some n) None = refl
    go (Some n) (Some ms) = sym (too_many word (ns ++ n ∷ ms) (simp length-append (omega arith)))

-- what was read so far, and what it takes to the end
pub record Read (line word ns : List ℕ) (fs : List (List ℕ)) : Type 0 where
  pub says : line_of line ≡ with_fields word ns fs

module _ (line : List ℕ) where
  pub long : 64 < length line → None ≡ line_of line
  unfolding line_of
  long h = rw (lt-ltb 64 (length line) h) refl

  pub no_word : (l : List (List ℕ)) → length line ≤ 64 → l ≡ fields line → l ≡ [] → None ≡ line_of line
  unfolding line_of command_of
  no_word l h e p = rw (le-ltb 64 (length line) h, ← e, p) refl

  pub word : (w : List ℕ) (l fs : List (List ℕ)) → length line ≤ 64 → l ≡ fields line → l ≡ w ∷ fs → Read line w [] fs
  unfolding line_of command_of
  word w l fs h e p = record { says = rw (le-ltb 64 (length line) h, ← e, p) refl }

  -- one step of the loop
  module _ (w ns : List ℕ) (l : List (List ℕ)) (r : Read line w ns l) where
    pub number : (f : List ℕ) (fs : List (List ℕ)) (n : ℕ) (ms : List ℕ) → l ≡ f ∷ fs → Some n ≡ number_of f → ms ≡ ns ++ n ∷ [] → Read line w ms fs
    number f fs n ms e p q = rw q (record { says = r.says ∙ rw e (one_more w ns f n fs (sym p)) })

    pub bad : (f : List ℕ) (fs : List (List ℕ)) → l ≡ f ∷ fs → None ≡ number_of f → None ≡ line_of line
    bad f fs e p = sym (r.says ∙ rw e (no_number w ns f fs (sym p)))

    pub many : (f : List ℕ) (fs : List (List ℕ)) → l ≡ f ∷ fs → length ns ≡ 4 → None ≡ line_of line
    many f fs e p = sym (r.says ∙ rw e (five w ns f fs p))

    pub end : l ≡ [] → command w ns ≡ line_of line
    end e = sym (r.says ∙ rw e (no_more w ns))
