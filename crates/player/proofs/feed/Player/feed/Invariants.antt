use Rattle.std.proofs.Common.{length, ◌-◌, ◌≡◌, ◌≤◌, ℕ, List, ◌++◌, drop}
use Rattle.player.specs.Play.{total}
use Rattle.player.proofs.feed.Player.feed.Given as goal

abbrev pub invariant-loop-next : goal.invariant-loop-next
invariant-loop-next l = record {
  within : l.next ≤ length l.chunk;
  first : l.next ≡ 0 → l.self.out ≡ l.initial.self.out;
  text : (rest : List ℕ) → total l.self (drop l.next l.chunk ++ rest) ≡ total l.initial.self (l.chunk ++ rest);
}

abbrev pub decreases-loop-next : goal.decreases-loop-next
decreases-loop-next l = length l.chunk - l.next
