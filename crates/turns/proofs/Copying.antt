-- A loop that writes 16 words into the list l₀, from place `at` on: the first i of them are written.
use Rattle.std.specs.Prelude.{◌≡◌, ℕ, ◌+◌, ◌<◌, ◌≤◌, List, ◌++◌, length, get_or, take, drop, set}
use mathlib.Core.Path.{ap, ◌∙◌}
use native.Mathlib.Omega.{arith}
use native.Mathlib.Numerals.{add-one}
use lib.Seq.{take_all, paste, paste-zero, paste-suc, length-paste}

pub record Copying (l₀ : List ℕ) (at : ℕ) (ws l : List ℕ) (i : ℕ) : Type 0 where
  pub long : length ws ≡ 16
  pub room : at + 16 ≤ length l₀
  pub few : i ≤ 16
  pub written : l ≡ paste l₀ at ws i

pub copy_begin : (l : List ℕ) (at : ℕ) (ws : List ℕ) → length ws ≡ 16 → at + 16 ≤ length l → Copying l at ws l 0
copy_begin l at ws e h = record { long = e; room = h; few = omega arith; written = paste-zero l at ws }

module _ (l₀ : List ℕ) (at : ℕ) (ws l : List ℕ) (i : ℕ) (k : Copying l₀ at ws l i) where
  pub copy-length : length l ≡ length l₀
  copy-length = let a = k.long in let b = k.room in let c = k.few in ap length k.written ∙ length-paste l₀ at ws i (omega arith) (omega arith)

  pub copy_in : i < 16 → at + i < length l
  copy_in h = let b = k.room in omega (arith, copy-length)

  pub copy-next : i < 16 → Copying l₀ at ws (set l (at + i) (get_or ws i 0)) (i + 1)
  copy-next h =
      let a = k.long in
      let b = k.room in
      record {
        long = k.long;
        room = k.room;
        few = omega arith;
        written = rw (k.written, add-one i) (paste-suc l₀ at ws i 0 (omega arith) (omega arith));
      }

  pub copy-end : 16 ≤ i → l ≡ take at l₀ ++ ws ++ drop (at + 16) l₀
  copy-end h =
      let a = k.long in
      let c = k.few in
      let e : i ≡ 16 = omega arith in
      k.written ∙ rw e (ap (λ (vs : List ℕ). take at l₀ ++ vs ++ drop (at + 16) l₀) (take_all 16 ws (omega arith)))

pub ruleset copies = (copy_begin, copy-length, copy_in, copy-next, copy-end)
