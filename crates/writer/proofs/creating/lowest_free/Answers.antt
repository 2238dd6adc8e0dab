use Rattle.std.proofs.Common.{rules, arith, ◌≡◌, ℕ, ◌+◌, ◌≤◌, ◌<◌, List, length, get_or, drop, length-drop, sym, ap, ◌∙◌}
use Rattle.std.proofs.lemmas.Bool.Decides.{nat_tests}
use Rattle.std.proofs.lemmas.Iterator.{YieldsList-from_slice}
use Rattle.std.proofs.lemmas.Iterator.Adapters.{YieldsList-from_skip}
use Rattle.std.proofs.lemmas.Iterator.Consumers.{YieldsList-from_enumerate, YieldsList-turn, YieldsList-end}
use Rattle.std.proofs.lemmas.List.{get_or-drop, get_or_default, length_push}
use Rattle.std.proofs.lemmas.List.FromFn.{length-enumerate_from, get_or-enumerate_from}
use Rattle.std.specs.List.{enumerate_from}
use Rattle.writer.specs.Used.{Past}
use Rattle.writer.proofs.Frees.{frees, free-end}
use Rattle.writer.proofs.creating.lowest_free.Goals as goal

-- item k after n are passed over: its number is its place, and the colour is that cell's
at_place : (l : List ℕ) (n k i b : ℕ) → (k < length (drop n (enumerate_from 0 l))) × (◌≡◌ {A = ℕ × ℕ} (i, b) (get_or (drop n (enumerate_from 0 l)) k (i, b))) → (n + k < length l) × (i ≡ n + k) × (b ≡ get_or l (n + k) 0)
at_place l n k i b h =
    let a : n + k < length l = omega (arith, length-drop n (enumerate_from 0 l), length-enumerate_from 0 l, h.0) in
    let e = h.1 ∙ get_or-drop n (enumerate_from 0 l) k (i, b) ∙ get_or-enumerate_from 0 l (n + k) (i, b) a in
    let z : i ≡ 0 + (n + k) = ap (λ p. p.0) e in
    (a, omega (arith, z), ap (λ p. p.1) e ∙ get_or_default l (n + k) b 0 a)

-- one cell more in use
past_step : (l : List ℕ) (i b j : ℕ) → Past l i → i < length l → b ≡ get_or l i 0 → (1 ≤ b) × (b ≤ 3) → j ≡ i + 1 → Past l j
past_step l i b j p h e r q = record { within = omega arith; same = rw q (grind (arith, nat_tests, frees, p.same)) }

pub returns-in-0 : goal.returns-in-0
returns-in-0 c =
    let t = YieldsList-turn (YieldsList-from_skip c.into_iter-i-iterator.result.n (YieldsList-from_enumerate (YieldsList-from_slice c.args.colours.now cc) cc) cc) c.loop-i.yielded _ c.loop-i.yielded_by _ _ (c.in-Some.i, c.in-Some.b) c.in-Some.is c.next.ensures.steps in
    let e = at_place c.args.colours.now c.into_iter-i-iterator.result.n (length c.loop-i.yielded) c.in-Some.i c.in-Some.b.now t in
    grind (arith, nat_tests, frees)

pub loop-i-preserved : goal.loop-i-preserved
loop-i-preserved c =
    let t = YieldsList-turn (YieldsList-from_skip c.into_iter-i-iterator.result.n (YieldsList-from_enumerate (YieldsList-from_slice c.args.colours.now cc) cc) cc) c.loop-i.yielded _ c.loop-i.yielded_by _ _ (c.in-Some.i, c.in-Some.b) c.in-Some.is c.next.ensures.steps in
    let e = at_place c.args.colours.now c.into_iter-i-iterator.result.n (length c.loop-i.yielded) c.in-Some.i c.in-Some.b.now t in
    let n = length_push c.loop-i.yielded (c.in-Some.i, c.in-Some.b) in
    past_step c.args.colours.now (c.into_iter-i-iterator.result.n + length c.loop-i.yielded) c.in-Some.b.now _ c.loop-i.invariant (omega (arith, e.0)) (grind (arith, e.2)) (search rules) (omega (arith, n))

pub returns-in_default : goal.returns-in_default
returns-in_default c =
    let t = YieldsList-turn (YieldsList-from_skip c.into_iter-i-iterator.result.n (YieldsList-from_enumerate (YieldsList-from_slice c.args.colours.now cc) cc) cc) c.loop-i.yielded _ c.loop-i.yielded_by _ _ (c.in-Some.i, c.in-Some.b) c.in-Some.is c.next.ensures.steps in
    let e = at_place c.args.colours.now c.into_iter-i-iterator.result.n (length c.loop-i.yielded) c.in-Some.i c.in-Some.b.now t in
    grind (arith, nat_tests, frees)

pub returns : goal.returns
returns c =
    let t = YieldsList-end (YieldsList-from_skip c.into_iter-i-iterator.result.n (YieldsList-from_enumerate (YieldsList-from_slice c.args.colours.now cc) cc) cc) c.loop-i.yielded _ c.loop-i.yielded_by _ _ c.in-None.is c.next.ensures.steps in
    let e = free-end c.args.colours.now (c.into_iter-i-iterator.result.n + length c.loop-i.yielded) (omega (arith, length-drop c.into_iter-i-iterator.result.n (enumerate_from 0 c.args.colours.now), length-enumerate_from 0 c.args.colours.now, t.1)) in
    sym e ∙ c.loop-i.invariant.same
