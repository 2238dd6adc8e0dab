-- However the input is cut, the output is that of the whole text.
use Prim.Native.Nat.{ℕ}
use mathlib.Core.Path.{◌≡◌, refl, sym, ◌∙◌, ap}
use mathlib.Core.List.{List, [], ◌++◌, append_assoc, append-nil}
use Rattle.player.specs.Game.{unstarted}
use Rattle.player.specs.Own.{game}
use Rattle.player.specs.Play.{output, total, play_text, played}
use Rattle.player.specs.Cut.{Begins, Emptied, Run, begin, read, fed, flushed}
use Rattle.player.specs.declared.feed.Player.{Player}
use Rattle.player.proofs.Before.{unstarted_alike}

pub at_first : (p : Player) → Begins p → (bs : List ℕ) → total p bs ≡ played bs
unfolding total play_text played
at_first p b bs = rw (b.out, b.count, b.line) (unstarted_alike (game p.store) unstarted b.unstarted refl bs)

-- what stands in the buffer, and what follows once it is empty
pub split : (p p' : Player) → Emptied p p' → (bs : List ℕ) → total p bs ≡ output p ++ total p' bs
unfolding total
split p p' e bs = rw (e.out, e.store, e.count, e.line) refl

pub so_far : (w : List ℕ) (p : Player) (pend s : List ℕ) → Run w p pend s → (rest : List ℕ) → w ++ total p (pend ++ rest) ≡ played (s ++ rest)
so_far w p pend s (begin b) rest = at_first p b rest
so_far w p pend s (read {s = s'} chunk r) rest = so_far w p [] s' r (chunk ++ rest) ∙ rw append_assoc refl
so_far w p pend s (fed {pend = q} {p = b} r e) rest = ap (λ (x : List ℕ). w ++ x) (e rest) ∙ so_far w b q s r rest
so_far w p pend s (flushed {w = v} {p = b} r e) rest = rw append_assoc (ap (λ (x : List ℕ). v ++ x) (sym (split b p e (pend ++ rest))) ∙ so_far v b pend s r rest)

-- and at the end of the input, with what `finish` leaves in the buffer
pub any_cut : (w last : List ℕ) (p : Player) (s : List ℕ) → Run w p [] s → last ≡ total p [] → w ++ last ≡ played s
any_cut w last p s r e = rw e (so_far w p [] s r [] ∙ rw append-nil refl)
