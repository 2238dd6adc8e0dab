use Rattle.std.proofs.Common.{sym}
use Rattle.player.specs.Play.{total, played}
use Rattle.player.proofs.Cut.{at_first}
use Rattle.playing.proofs.Written.{nothing_read, Continues-trans, Continues-InPart, continued, on_err}
use Rattle.playing.proofs.play_all.Goals as goal

pub loop-init : goal.loop-init
loop-init g c =
    let player = c.new-player in
    record { empty = player.ensures.out; written = nothing_read _ _ _ _ (λ rest. sym (at_first player.result player.ensures rest)) }

pub loop-preserved : goal.loop-preserved
loop-preserved g c =
    let next = continued c.in_ok-read_some.field-0 _ _ c.if-not-branch.false c.in_ok-read_some.ensures.played in
    record {
      empty = c.in_ok-read_some.ensures.empty;
      written = Continues-trans _ _ _ _ _ _ played (total c.loop.player) (total c.read_some.new.player) c.loop.invariant.written next;
    }

-- What was read before was played and written, and then a part of what came last.
pub returns-in_err-read_some-clause-part : goal.returns-in_err-read_some-clause-part
returns-in_err-read_some-clause-part g c =
    on_err c.from_residual.result (Continues-InPart _ _ _ _ _ played (total c.loop.player) c.loop.invariant.written c.in_err-read_some.ensures.part)
