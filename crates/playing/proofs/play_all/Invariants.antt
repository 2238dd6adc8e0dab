-- Nothing is left in the player's buffer, and what was read so far was played and written.
use Rattle.std.proofs.Common.{◌≡◌, []}
use Rattle.player.specs.Play.{output, total, played}
use Rattle.playing.specs.Written.{Continues}
use Rattle.playing.proofs.play_all.Given as goal

abbrev pub invariant-loop : goal.invariant-loop
invariant-loop g l = record {
  empty : output l.player ≡ [];
  written : Continues (g.R.Read.remaining l.initial.reader) (g.R.Read.remaining l.reader)
      (g.W.Write.contents l.initial.writer) (g.W.Write.contents l.writer) played (total l.player);
}
