use Rattle.std.specs.Prelude.{◌≡◌, take}
use Rattle.machine.specs.Census.{tally}
use Rattle.census.proofs.counts.tally.Given as goal

abbrev pub invariant-loop-b : goal.invariant-loop-b
invariant-loop-b l = record {
  free : l.free ≡ tally 0 (take l.b-index l.colours);
  white : l.white ≡ tally 1 (take l.b-index l.colours);
  gray : l.gray ≡ tally 2 (take l.b-index l.colours);
  black : l.black ≡ tally 3 (take l.b-index l.colours);
}
