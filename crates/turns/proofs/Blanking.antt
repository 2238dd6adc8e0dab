-- Every row's words written as start leaves them, one row after the other.
use Rattle.std.specs.Prelude.{◌≡◌, ℕ, zero, suc, ◌+◌, ◌*◌, ◌/◌, ◌%◌, ◌<◌, ◌≤◌, List, ◌++◌, length, take, drop, replicate}
use mathlib.Core.Path.{refl, sym, ap, ◌∙◌}
use mathlib.Core.List.{append_assoc, append-nil}
use native.Mathlib.Omega.{arith}
use native.Mathlib.Numerals.{add-one}
use native.Mathlib.Nat.{add_comm}
use borrow.Author.Tests.{lt-ltb}
use lib.ListN.{length-append, length-drop, drop_of_length-le}
use lib.Seq.{take_at, drop-append-add, drop-drop}
use Rattle.machine.specs.Store.{fresh_row}
use Rattle.machine.specs.declared.Row.{Row}
use Rattle.turns.specs.Plain.{words_of, row_words, desk_of, with_row}
use Rattle.turns.proofs.Desk.{desk-length}

abbrev fresh : ℕ → List ℕ
fresh k = row_words (replicate k fresh_row)

fresh-length : (k : ℕ) → length (fresh k) ≡ k * 16
unfolding row_words words_of
fresh-length zero = refl
fresh-length (suc k) = let e = fresh-length k in length-append (words_of fresh_row) (fresh k) ∙ omega arith

fresh-more : (k : ℕ) → fresh k ++ words_of fresh_row ≡ fresh (suc k)
unfolding row_words
fresh-more zero = sym (append-nil (words_of fresh_row))
fresh-more (suc k) = append_assoc (words_of fresh_row) (fresh k) (words_of fresh_row) ∙ ap (λ (l : List ℕ). words_of fresh_row ++ l) (fresh-more k)

-- of the rows in the words l₀, the first i are written
pub record Blanking (l₀ l : List ℕ) (i : ℕ) : Type 0 where
  pub few : i ≤ length l₀ / 16
  pub whole : length l₀ % 16 ≡ 0
  pub written : l ≡ fresh i ++ drop (i * 16) l₀

pub blank-begin : (l : List ℕ) → length l % 16 ≡ 0 → Blanking l l 0
unfolding row_words
blank-begin l h = record { few = omega arith; whole = h; written = refl }

module _ (l₀ l : List ℕ) (i : ℕ) (k : Blanking l₀ l i) where
  pub blank-length : length l ≡ length l₀
  blank-length =
      let f = k.few in
      ap length k.written ∙ length-append (fresh i) (drop (i * 16) l₀) ∙ omega (arith, fresh-length i, length-drop (i * 16) l₀)

  pub blank-next : (l' : List ℕ) (row : Row) → i < length l₀ / 16 → row ≡ fresh_row → l' ≡ with_row l i row → Blanking l₀ l' (i + 1)
  unfolding with_row
  blank-next l' row h r e = record {
    few = omega arith;
    whole = k.whole;
    written = written;
  }
    where
      long : length (fresh i) ≡ i * 16
      long = fresh-length i

      before : take (i * 16) (fresh i ++ drop (i * 16) l₀) ≡ fresh i
      before = take_at (fresh i) (drop (i * 16) l₀) (i * 16) long

      after : drop (i * 16 + 16) (fresh i ++ drop (i * 16) l₀) ≡ drop ((i + 1) * 16) l₀
      after =
          let s : 16 + i * 16 ≡ (i + 1) * 16 = omega arith in
          ap (λ (n : ℕ). drop (n + 16) (fresh i ++ drop (i * 16) l₀)) (sym long) ∙ drop-append-add (fresh i) (drop (i * 16) l₀) 16 ∙ drop-drop 16 (i * 16) l₀ ∙ ap (λ (n : ℕ). drop n l₀) (add_comm (i * 16) 16 ∙ s)

      put : with_row l i row ≡ take (i * 16) l ++ words_of row ++ drop (i * 16 + 16) l
      put = rw (lt-ltb i (length l / 16) (rw blank-length h)) refl

      written : l' ≡ fresh (i + 1) ++ drop ((i + 1) * 16) l₀
      written = e ∙ put ∙ rw (r, k.written) (λ j. before j ++ words_of fresh_row ++ after j) ∙ ap (λ (r : List ℕ). r ++ drop ((i + 1) * 16) l₀) (fresh-more i ∙ ap fresh (sym (add-one i)))

  pub blank-end : length l₀ / 16 ≤ i → l ≡ row_words (replicate (length (desk_of l₀)) fresh_row)
  blank-end h =
      let f = k.few in
      let w = k.whole in
      let e : i ≡ length (desk_of l₀) = omega (arith, desk-length l₀) in
      k.written ∙ ap (λ (r : List ℕ). fresh i ++ r) (drop_of_length-le l₀ {i = i * 16} (omega arith)) ∙ append-nil (fresh i) ∙ ap fresh e
