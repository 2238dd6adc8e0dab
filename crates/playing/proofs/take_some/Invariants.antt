-- A read that was interrupted consumed nothing, and the buffer keeps its length.
use Rattle.std.proofs.Common.{◌≡◌, length}
use Rattle.std.specs.Io.KnownBytes.{Keeps}
use Rattle.playing.proofs.take_some.Given as goal

abbrev pub invariant-loop : goal.invariant-loop
invariant-loop g l = (length l.input ≡ length l.initial.input) × Keeps (g.R.Read.remaining l.initial.reader) (g.R.Read.remaining l.reader)
