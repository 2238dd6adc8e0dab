-- Each turn plays a byte or more, leaves nothing in the player's buffer, and writes what the bytes gave.
use Rattle.std.proofs.Common.{◌≡◌, [], ◌++◌, length}
use Rattle.player.specs.Play.{output, total}
use Rattle.playing.specs.Written.{Written}
use Rattle.playing.proofs.drain.Given as goal

abbrev pub invariant-loop-rest : goal.invariant-loop-rest
invariant-loop-rest g l = record {
  empty : output l.player ≡ [];
  written : Written (g.W.Write.contents l.initial.writer) (g.W.Write.contents l.writer)
      (λ rest. total l.initial.player (l.chunk ++ rest)) (λ rest. total l.player (l.rest ++ rest));
}

abbrev pub decreases-loop-rest : goal.decreases-loop-rest
decreases-loop-rest g l = length l.rest
