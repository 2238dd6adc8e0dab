use Rattle.std.proofs.Common.{rules, ◌≡◌, ap, subst, take, Ok}
use Rattle.std.specs.Io.KnownBytes.{ReadConsumes}
use Rattle.player.specs.Play.{total}
use Rattle.playing.proofs.Written.{chunk_failed, chunk_played, end_in_part, on_err, on_ok}
use Rattle.playing.proofs.read_some.Goals as goal

-- The chunk is what was read; nothing more is to be written once the last output line was.
pub returns-clause-played : goal.returns-clause-played
returns-clause-played g c =
    let player = c.drain.new.player in
    let got = c.in_ok-got.got in
    let input = c.take_some.new.input in
    let was : c.take_some.result ≡ Ok got = search rules in
    let took = subst (λ r. ReadConsumes (g.R.Read.remaining c.args.reader.now) (g.R.Read.remaining c.take_some.new.reader) r input) was c.take_some.ensures.bytes in
    chunk_played c.drain.result player _ _ _ _ (total c.args.player.now) (take got input) took.0 c.drain.ensures.written c.drain.ensures.more (on_ok c.drain.result c.drain.ensures.empty)

-- A part of what the chunk gave was written.
pub returns-clause-part : goal.returns-clause-part
returns-clause-part g c =
    let got = c.in_ok-got.got in
    let input = c.take_some.new.input in
    let was : c.take_some.result ≡ Ok got = search rules in
    let took = subst (λ r. ReadConsumes (g.R.Read.remaining c.args.reader.now) (g.R.Read.remaining c.take_some.new.reader) r input) was c.take_some.ensures.bytes in
    chunk_failed c.drain.result _ _ _ _ (total c.args.player.now) (take got input) took.0 c.drain.ensures.part

-- The input is at its end, and a part of the last line's output was written.
pub returns-in_err-close_text-clause-part : goal.returns-in_err-close_text-clause-part
returns-in_err-close_text-clause-part g c =
    let got = c.in_ok-got.got in
    let input = c.take_some.new.input in
    let was : c.take_some.result ≡ Ok got = search rules in
    let took = subst (λ r. ReadConsumes (g.R.Read.remaining c.args.reader.now) (g.R.Read.remaining c.take_some.new.reader) r input) was c.take_some.ensures.bytes in
    on_err c.from_residual-in_err-close_text.result
    (end_in_part _ _ _ _ (total c.args.player.now) (take got input) took.0
    (ap (λ n. take n input) c.if-got-eq0.true) (took.1 c.if-got-eq0.true (search rules)) c.in_err-close_text.ensures.part)
