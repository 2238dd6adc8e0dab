-- A run of the player over any cut of the input: each step is one call's promise.
use Rattle.std.specs.Prelude.{ℕ, ◌≡◌, false, List, [], ◌++◌}
use Rattle.player.specs.Own.{game}
use Rattle.player.specs.Play.{output, total}
use Rattle.player.specs.declared.feed.Player.{Player}

-- no start has succeeded, and nothing was read or written
pub record Begins (p : Player) : Type 0 where
  pub unstarted : (game p.store).started ≡ false
  pub line : p.line.items ≡ []
  pub out : output p ≡ []
  pub count : p.count ≡ 0

-- the output was written from its buffer, which is empty again
pub record Emptied (p p' : Player) : Type 0 where
  pub store : p'.store ≡ p.store
  pub line : p'.line ≡ p.line
  pub out : output p' ≡ []
  pub count : p'.count ≡ p.count

-- Run w p pend s: begun before any start, the bytes s were read in some chunks, pend of them are not fed yet, and w was written to the output
pub data Run : List ℕ → Player → List ℕ → List ℕ → Type 0 where
  begin : {p : Player} → Begins p → Run [] p [] []
  read : {w s : List ℕ} {p : Player} (chunk : List ℕ) → Run w p [] s → Run w p chunk (s ++ chunk)
  fed : {w pend pend' s : List ℕ} {p p' : Player} → Run w p pend s
      → ((rest : List ℕ) → total p' (pend' ++ rest) ≡ total p (pend ++ rest)) → Run w p' pend' s
  flushed : {w pend s : List ℕ} {p p' : Player} → Run w p pend s → Emptied p p' → Run (w ++ output p) p' pend s
