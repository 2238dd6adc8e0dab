-- A list of numbers, as a slice pattern tells it: its length, and then each number by its place.
use Prim.Native.Nat.{ℕ, ◌<◌, ◌≤◌}
use mathlib.Core.Path.{◌≡◌, refl, sym, ◌∙◌, ap}
use mathlib.Core.List.{List, [], ◌∷◌}
use native.Mathlib.Omega.{arith}
use lib.ListN.{length, get_or}
use Rattle.std.specs.Prelude.{Option, None}
use Rattle.std.proofs.lemmas.List.FromFn.{fill_by_all}
use Rattle.lines.specs.Lines.{command}
use Rattle.lines.specs.declared.Line.{Line}

module _ (w ns : List ℕ) (x : Option Line) where
  pub no_number : length ns < 1 → x ≡ command w [] → x ≡ command w ns
  no_number h e = e ∙ ap (command w) (sym (fill_by_all (λ k. get_or ns k 0) ns 0 0 (omega arith) (λ k b. refl)))

  pub one_number : 1 ≤ length ns → length ns < 2 → x ≡ command w (get_or ns 0 0 ∷ []) → x ≡ command w ns
  one_number l h e = e ∙ ap (command w) (sym (fill_by_all (λ k. get_or ns k 0) ns 1 0 (omega arith) (λ k b. refl)))

  pub two_numbers : 2 ≤ length ns → length ns < 3 → x ≡ command w (get_or ns 0 0 ∷ get_or ns 1 0 ∷ []) → x ≡ command w ns
  two_numbers l h e = e ∙ ap (command w) (sym (fill_by_all (λ k. get_or ns k 0) ns 2 0 (omega arith) (λ k b. refl)))

  pub three_numbers : 3 ≤ length ns → length ns < 4 → x ≡ command w (get_or ns 0 0 ∷ get_or ns 1 0 ∷ get_or ns 2 0 ∷ []) → x ≡ command w ns
  three_numbers l h e = e ∙ ap (command w) (sym (fill_by_all (λ k. get_or ns k 0) ns 3 0 (omega arith) (λ k b. refl)))

  pub four_numbers : 4 ≤ length ns → length ns < 5 → x ≡ command w (get_or ns 0 0 ∷ get_or ns 1 0 ∷ get_or ns 2 0 ∷ get_or ns 3 0 ∷ []) → x ≡ command w ns
  four_numbers l h e = e ∙ ap (command w) (sym (fill_by_all (λ k. get_or ns k 0) ns 4 0 (omega arith) (λ k b. refl)))

pub too_many : (w ns : List ℕ) → 5 ≤ length ns → None ≡ command w ns
unfolding command
too_many w [] h = absurd (omega arith)
too_many w (a ∷ []) h = absurd (omega arith)
too_many w (a ∷ b ∷ []) h = absurd (omega arith)
too_many w (a ∷ b ∷ c ∷ []) h = absurd (omega arith)
too_many w (a ∷ b ∷ c ∷ d ∷ []) h = absurd (omega arith)
too_many w (a ∷ b ∷ c ∷ d ∷ e ∷ ns) h = refl

pub ruleset numbers = (no_number, one_number, two_numbers, three_numbers, four_numbers, too_many)
