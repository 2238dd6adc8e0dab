-- What is written and what is still to be written, from byte to byte.
use Rattle.std.proofs.Common.{◌≡◌, ℕ, ◌+◌, ◌<◌, ◌≤◌, List, [], ◌∷◌, ◌++◌, length, take, min, ◌≢◌, All, refl, sym, ◌∙◌, ap, append_assoc, append-nil}
use Rattle.std.proofs.lemmas.List.{nil_from_length}
use borrow.Author.Tests.{le-leb, lt-leb}
use Rattle.std.specs.Prelude.{Option, Result}
use Rattle.arrayvec.specs.ArrayVec.{ArrayVec}
use Rattle.machine.specs.declared.Refusal.{Refusal}
use Rattle.lines.specs.Lines.{line_of}
use Rattle.lines.specs.Output.{said_of, out_line}
use Rattle.lines.specs.declared.Line.{Line}
use Rattle.lines.specs.declared.Reply.{Reply}
use Rattle.player.specs.Game.{Game}
use Rattle.player.specs.Own.{game, Plays}
use Rattle.player.specs.Play.{output, last_line, lines_from, play_lines, total}
use Rattle.player.specs.declared.store.OwnStore.{OwnStore}
use Rattle.player.specs.declared.feed.Player.{Player}
use Rattle.player.proofs.Filling.{all_kept, last_cons}

-- after the last output line there is nothing
over : (g : Game) (k : ℕ) (ls : List (List ℕ)) → 4294967295 ≤ k → play_lines g k ls ≡ []
unfolding play_lines
over g k [] h = refl
over g k (l ∷ ls) h = rw (le-leb 4294967295 k h) refl

pub ended : (p : Player) → output p ≡ [] → 4294967295 ≤ p.count → (bs : List ℕ) → total p bs ≡ []
unfolding total
ended p e h bs = rw (e, over (game p.store) p.count (lines_from p.line.items bs) h) refl

module _ (p : Player) where
  -- more bytes of a line were kept
  pub kept : (line : ArrayVec ℕ) (bytes : List ℕ) (k room : ℕ) → room + length p.line.items ≡ 65 → k ≡ min (length bytes) room → All (λ b. b ≢ 10) bytes
      → line.items ≡ p.line.items ++ take k bytes → (rest : List ℕ) → total (record { store = p.store; line = line; out = p.out; count = p.count }) rest ≡ total p (bytes ++ rest)
  unfolding total
  kept line bytes k room size few other e rest =
      rw e (ap (λ (x : List ℕ). output p ++ x) (all_kept p.line.items bytes k room size few other rest (game p.store) p.count))

  -- a line was answered
  pub answered : (store : OwnStore) (line out : ArrayVec ℕ) (l : Option Line) (reply : Result Reply Refusal) → p.count < 4294967295 → l ≡ line_of p.line.items → Plays p.store l reply store
      → out.items ≡ output p ++ out_line (p.count + 1) (said_of reply) → line.items ≡ [] → (rest : List ℕ)
      → total (record { store = store; line = line; out = out; count = p.count + 1 }) rest ≡ total p (10 ∷ rest)
  unfolding total play_lines lines_from
  answered store line out l reply h q s w e rest = rw (w, e, ← q, ← s.plays, lt-leb 4294967295 p.count h, append_assoc) refl

  -- or no more lines are
  pub unanswered : (line : ArrayVec ℕ) → 4294967295 ≤ p.count → line.items ≡ [] → (rest : List ℕ)
      → total (record { store = p.store; line = line; out = p.out; count = p.count }) rest ≡ total p (10 ∷ rest)
  unfolding total
  unanswered line h e rest =
      ap (λ (x : List ℕ). output p ++ x)
      (over (game p.store) p.count (lines_from line.items rest) h ∙ sym (over (game p.store) p.count (lines_from p.line.items (10 ∷ rest)) h))

-- at the end of the text no line is begun, or the last one has no end
pub no_line : (p : Player) → length p.line.items ≡ 0 → output p ≡ total p []
unfolding total lines_from last_line play_lines
no_line p e = rw (nil_from_length p.line.items e) (sym (append-nil (output p)))

pub last_one : (p : Player) → 0 < length p.line.items → total p (10 ∷ []) ≡ total p []
unfolding total lines_from last_line
last_one p h = rw (last_cons p.line.items h) refl
