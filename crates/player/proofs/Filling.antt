-- A line, filled from the parts of chunks.
use Prim.Native.Nat.{ℕ, suc, ◌+◌, ◌-◌, ◌<◌}
use mathlib.Core.Path.{◌≡◌, refl, sym, ◌∙◌}
use mathlib.Core.Bool.{Bool, true, false}
use mathlib.Core.List.{List, [], ◌∷◌, ◌++◌, append_assoc, append-nil}
use native.Mathlib.Omega.{arith}
use borrow.Author.Tests.{ne_eqb, lt-ltb}
use lib.Dec.{eqb}
use lib.ListN.{length, take, length-append}
use lib.Seq.{length-take-le, take_all}
use Rattle.std.proofs.Common.{eq-zero-or-pos, inl, inr, min, ◌≢◌, All}
use Rattle.std.specs.Prelude.{None}
use Rattle.machine.specs.Choice.{pick}
use Rattle.lines.specs.Lines.{line_of}
use Rattle.player.specs.Game.{Game}
use Rattle.player.specs.Play.{last_line, lines_from, play_lines}

-- lines of more than 64 bytes say the same
long_is : (a : List ℕ) → 64 < length a → line_of a ≡ None
unfolding line_of
long_is a h = rw (lt-ltb 64 (length a) h) refl

same_line : (g : Game) (k : ℕ) (a c : List ℕ) (ls : List (List ℕ)) → line_of a ≡ line_of c → play_lines g k (a ∷ ls) ≡ play_lines g k (c ∷ ls)
unfolding play_lines
same_line g k a c ls e = rw e refl

pub last_cons : (a : List ℕ) → 0 < length a → last_line a ≡ a ∷ []
unfolding last_line
last_cons [] h = absurd (omega arith)
last_cons (b ∷ bs) h = refl

snoc_long : (a : List ℕ) (b : ℕ) → 64 < length a → 64 < length (a ++ b ∷ [])
snoc_long a b h = rw (length-append a (b ∷ [])) (omega arith)

long_byte : (y : Bool) (b : ℕ) (bs a c : List ℕ) (g : Game) (k : ℕ) → 64 < length a → 64 < length c
    → play_lines g k (lines_from (a ++ b ∷ []) bs) ≡ play_lines g k (lines_from (c ++ b ∷ []) bs)
    → play_lines g k (pick y (a ∷ lines_from [] bs) (lines_from (a ++ b ∷ []) bs)) ≡ play_lines g k (pick y (c ∷ lines_from [] bs) (lines_from (c ++ b ∷ []) bs))
long_byte true b bs a c g k h l e = same_line g k a c (lines_from [] bs) (long_is a h ∙ sym (long_is c l))
long_byte false b bs a c g k h l e = e

long : (bs a c : List ℕ) (g : Game) (k : ℕ) → 64 < length a → 64 < length c → play_lines g k (lines_from a bs) ≡ play_lines g k (lines_from c bs)
unfolding lines_from
long [] a c g k h l =
    let z : 0 < length a = omega arith in
    let w : 0 < length c = omega arith in
    rw (last_cons a z, last_cons c w) (same_line g k a c [] (long_is a h ∙ sym (long_is c l)))
long (b ∷ bs) a c g k h l = long_byte (eqb b 10) b bs a c g k h l (long bs (a ++ b ∷ []) (c ++ b ∷ []) g k (snoc_long a b h) (snoc_long c b l))

-- bytes that are no line's end are all of one line
one_line : (bs rest acc : List ℕ) → All (λ b. b ≢ 10) bs → lines_from acc (bs ++ rest) ≡ lines_from (acc ++ bs) rest
unfolding lines_from
one_line [] rest acc h = rw append-nil refl
one_line (b ∷ bs) rest acc h =
    rw (ne_eqb b 10 (h 0 0 (omega arith))) (one_line bs rest (acc ++ b ∷ []) (λ k d l. h (suc k) d (omega arith)) ∙ rw append_assoc refl)

-- they are kept where there is room, and else the line is long already
pub all_kept : (a bytes : List ℕ) (kept room : ℕ) → room + length a ≡ 65 → kept ≡ min (length bytes) room → All (λ b. b ≢ 10) bytes
    → (rest : List ℕ) (g : Game) (k : ℕ) → play_lines g k (lines_from (a ++ take kept bytes) rest) ≡ play_lines g k (lines_from a (bytes ++ rest))
all_kept a bytes kept room size few other rest g k =
    let fit = length-take-le kept bytes (omega arith) in
    rw (one_line bytes rest a other) (
    elim (eq-zero-or-pos (length bytes - kept)) [
      | inl z ↦ rw (take_all kept bytes (omega arith)) refl
      | inr more ↦
          long rest (a ++ take kept bytes) (a ++ bytes) g k
          (rw (length-append a (take kept bytes), fit) (omega arith))
          (rw (length-append a bytes) (omega arith))
    ])
