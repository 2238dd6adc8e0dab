use Rattle.std.proofs.Common.{rules, arith, ◌≡◌, ℕ, ◌+◌, ◌-◌, ◌*◌, ◌≤◌, List, [], ◌∷◌, ◌++◌, length, take, drop, replicate, sym, length-drop}
use Rattle.std.proofs.Math.ListN.{set}
use Rattle.std.proofs.Math.Seq.{length-take-le}
use Rattle.std.proofs.lemmas.List.{take-append-drop, set-append_right}
use Rattle.machine.specs.Creating.{emptied}
use Rattle.machine.specs.Limits.{none}
use borrow.Rule.Slice.PartMut.{put_mid}
use Rattle.writer.proofs.creating.empty_cell.Goals as goal

-- four numbers that stand in a row are written one by one
four : (p r : List ℕ) (a v : ℕ) → length p ≡ a → 4 ≤ length r → set (set (set (set (p ++ r) (a + 0) v) (a + 1) v) (a + 2) v) (a + 3) v ≡ p ++ (v ∷ v ∷ v ∷ v ∷ drop 4 r)
four p [] a v e h = absurd (omega arith)
four p (w ∷ []) a v e h = absurd (omega arith)
four p (w ∷ x ∷ []) a v e h = absurd (omega arith)
four p (w ∷ x ∷ y ∷ []) a v e h = absurd (omega arith)
four p (w ∷ x ∷ y ∷ z ∷ r) a v e h =
    let k : a + 0 - a ≡ 0 = omega arith in
    let l : a + 1 - a ≡ 1 = omega arith in
    let m : a + 2 - a ≡ 2 = omega arith in
    let n : a + 3 - a ≡ 3 = omega arith in
    rw (set-append_right p (w ∷ x ∷ y ∷ z ∷ r) a (a + 0) v e (omega arith), k, set-append_right p (v ∷ x ∷ y ∷ z ∷ r) a (a + 1) v e (omega arith), l, set-append_right p (v ∷ v ∷ y ∷ z ∷ r) a (a + 2) v e (omega arith), m, set-append_right p (v ∷ v ∷ v ∷ z ∷ r) a (a + 3) v e (omega arith), n)

-- ys is the part of l from a on after a `fill`
filled : (l ys : List ℕ) (a k v : ℕ) → a + 4 ≤ length l → k ≡ 4 → ys ≡ replicate (length (take k (drop a l))) v → put_mid a k l ys ≡ set (set (set (set l (a + 0) v) (a + 1) v) (a + 2) v) (a + 3) v
filled l ys a k v h e p =
    let d : 4 ≤ length (drop a l) = simp length-drop (omega arith) in
    let t = four (take a l) (drop a l) a v (length-take-le a l (omega arith)) d in
    rw (p, e, length-take-le 4 (drop a l) d) (sym (rw (take-append-drop a l) at t))

pub returns : goal.returns
unfolding emptied
returns c = filled c.args.fields.now c.fill.new.self (c.args.cell * 4) _ none (omega arith) (omega arith) (c.fill.ensures.after (λ y h. search rules))
