use Rattle.std.proofs.Common.{◌≡◌, ◌≤◌, ◌-◌, ◌++◌, length, replicate, drop, arith, sym}
use Rattle.std.proofs.lemmas.List.{length-take-le}
use Rattle.machine.specs.Choice.{refuse}
use Rattle.machine.specs.Limits.{none}
use Rattle.turn.proofs.Sizes.{sizes}
use Rattle.turn.proofs.Beginning.{pages-white}
use Rattle.turn.specs.Lent.{beginning}
use Rattle.turn.proofs.by_value.start_core.Goals as goal

pub slice_bounds-fill-end-2 : goal.slice_bounds-fill-end-2
slice_bounds-fill-end-2 c =
    let h : c.args.g ≤ length c.args.colours.now = grind (arith, sizes) in
    sym (length-take-le c.args.g c.fill-2.new.self (omega arith))

pub returns : goal.returns
unfolding beginning refuse
returns c =
    let h : c.args.g ≤ length c.args.colours.now = grind (arith, sizes) in
    let f : c.fill.new.self ≡ replicate (length c.args.fields.now) none = c.fill.ensures.after (λ y e. e) in
    let p : c.fill-3.new.self ++ drop c.args.g c.fill-2.new.self ≡ replicate c.args.g 1 ++ replicate (length c.args.colours.now - c.args.g) 0 =
    pages-white c.args.g (length c.args.colours.now) c.fill-2.new.self c.fill-3.new.self h (c.fill-2.ensures.after (λ y e. e)) (c.fill-3.ensures.after (λ y e. e)) in
    grind arith
