use Rattle.std.proofs.Common.{◌∙◌, ◌++◌, ap, drop, sym}
use Rattle.player.specs.Play.{output, total}
use Rattle.player.proofs.Cut.{split}
use Rattle.playing.proofs.Written.{left_over, on_err, output_begins, Written-InPart, Written-trans}
use Rattle.playing.proofs.drain.Goals as goal

-- What stood in the player's buffer was written.
pub loop-rest-preserved : goal.loop-rest-preserved
loop-rest-preserved g c =
    let l = c.loop-rest in
    let p = c.feed-fed.new.self in
    let q = c.flush.new.player in
    let fed = c.feed-fed.result in
    record {
      empty = c.in_ok-flush.ensures.emptied.out;
      written = Written-trans _ _ _ _ (λ rest. total l.player (l.rest.now ++ rest)) _ l.invariant.written (
        output p,
        c.in_ok-flush.ensures.all,
        λ rest.
            sym (c.feed-fed.ensures.text rest) ∙ split p q c.in_ok-flush.ensures.emptied (drop fed l.rest.now ++ rest)
            ∙ ap (λ left. output p ++ total q (left ++ rest)) (sym (left_over l.rest.now fed)),
      );
    }

-- A write failed: what was written before, and the first bytes of what stood in the player's buffer.
pub returns-in_err-flush-clause-part : goal.returns-in_err-flush-clause-part
returns-in_err-flush-clause-part g c =
    let l = c.loop-rest in
    let p = c.feed-fed.new.self in
    let (w, appended, begins) = c.flush.ensures.part in
    on_err c.from_residual.result (Written-InPart _ _ _ _ (λ rest. total l.player (l.rest.now ++ rest)) l.invariant.written (
      w,
      appended,
      λ rest. output_begins p (drop c.feed-fed.result l.rest.now ++ rest) _ w (sym (c.feed-fed.ensures.text rest)) begins,
    ))
