use Rattle.std.proofs.Common.{rules, arith, refl, ◌<◌, ◌*◌}
use Rattle.writer.proofs.Frees.{past_stretches, stretch_used}
use Rattle.writer.proofs.creating.past_used.Goals as goal

pub returns : goal.returns
returns c =
    let n = c.count.ensures.runs in
    let t = c.take_while.ensures.runs n.0 n.0.seen n.1 in
    let s = rw (t.1, c.chunks_exact.ensures.size, c.chunks_exact.ensures.rest) at (c.chunks_exact.ensures.runs t.0 t.0.seen (rw (t.1, c.chunks_exact.ensures.size) (omega arith))) in
    let w = (t.2.2 (λ a r f k. refl)).0 in
    past_stretches c.args.colours.now 32 c.count.result (omega (arith, t.2.0, s.0, n.3)) (λ j h. let b : j < n.0.len = omega (arith, n.3) in stretch_used c.args.colours.now 32 (j * 32) _ (n.0.at j) (t.0.at j) _ (λ x k. search rules) (n.0.reads j c.args.colours b) (t.2.1 j b) (w j) (s.2 j))
