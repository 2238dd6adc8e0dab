use Rattle.std.proofs.Common.{length, arith, sym, refl}
use Rattle.std.proofs.lemmas.List.{length-take-le}
use Rattle.turn.proofs.Seeing.{rows_read_le}
use Rattle.turn.proofs.Asking.{asked_more, asked_all}
use Rattle.turns.proofs.Surveying.{status_in, status_is, saw-bad, saw-all}
use Rattle.turns.proofs.calls.survey_words.Goals as goal

pub slice_bounds-words-items-end : goal.slice_bounds-words-items-end
slice_bounds-words-items-end c =
    let k = rows_read_le c.args.rec (length c.as_chunks.result.0.now) in
    sym (length-take-le c.rows_read-n.result c.as_chunks.result.0.now (omega arith))

pub loop-words-init : goal.loop-words-init
loop-words-init c = (refl, refl)

pub loop-words-preserved : goal.loop-words-preserved
loop-words-preserved c =
    rw c.short_of-status.ensures (asked_more status_in _ _ _ _ (omega arith) c.loop-words.invariant.0, asked_more (status_is c.posted-number.result) _ _ _ _ (omega arith) c.loop-words.invariant.1)

pub returns-then-fit : goal.returns-then-fit
returns-then-fit c =
    saw-all c.args.rec c.args.desk.now c.as_chunks.result.0.now c.rows_read-n.result c.as_chunks.ensures.front c.rows_read-n.ensures c.as_chunks.ensures.front_len _ _ _
    (asked_all status_in _ _ _ (omega arith) c.loop-words.invariant.0) c.if-fit.true
    c.posted-number.ensures (asked_all (status_is c.posted-number.result) _ _ _ (omega arith) c.loop-words.invariant.1)

pub returns-else-fit : goal.returns-else-fit
returns-else-fit c =
    saw-bad c.args.rec c.args.desk.now c.as_chunks.result.0.now c.rows_read-n.result c.as_chunks.ensures.front c.rows_read-n.ensures c.as_chunks.ensures.front_len _
    (asked_all status_in _ _ _ (omega arith) c.loop-words.invariant.0) c.if-fit.false
