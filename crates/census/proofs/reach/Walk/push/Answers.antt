use Rattle.std.proofs.Common.{arith}
use Rattle.census.specs.Walk.{new}
use Rattle.census.proofs.Walks.{room-new}
use Rattle.census.proofs.reach.Walk.push.Goals as goal

pub invariant_of-self : goal.invariant_of-self
invariant_of-self c = record { room = room-new c.args.self.now c.args.v (omega arith) c.if-self-i-2.false c.push.new.self.items c.push.ensures.len }

pub returns : goal.returns
returns c = search new
