use Rattle.std.proofs.Common.{rules, ◌≡◌, ◌++◌, take, subst, Ok}
use Rattle.std.proofs.KnownBytes.{Appends-trans}
use Rattle.std.specs.Io.KnownBytes.{WriteAppends}
use Rattle.playing.proofs.Written.{written_on}
use Rattle.playing.proofs.put_all.Goals as goal

pub loop-rest-preserved : goal.loop-rest-preserved
loop-rest-preserved g c =
    let put = c.in_ok-put.put in
    let rest = c.loop-rest.rest.now in
    let (w, so_far, before) = c.loop-rest.invariant in
    let was : c.put_some.result ≡ Ok put = search rules in (
      w ++ take put rest,
      written_on _ w rest put so_far,
      Appends-trans _ _ _ _ _ before (subst (λ r. WriteAppends (g.W.Write.contents c.loop-rest.writer) (g.W.Write.contents c.put_some.new.writer) r rest) was c.put_some.ensures.bytes),
    )
