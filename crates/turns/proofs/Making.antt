-- The record's numbers, written one after the other.
use Rattle.std.specs.Prelude.{◌≡◌, ℕ, [], ◌∷◌, List, set, refl}
use Rattle.std.proofs.Common.{◌∙◌, arith, drop_of_length-le}
use lib.Seq.{sets-eq}
use Rattle.machine.specs.declared.Record.{Record}
use Rattle.turns.specs.Plain.{numbers_of, Standing}

-- those from place 3 on
pub rest_put : (l : List ℕ) (rec : Record) (stage place part hold found : ℕ) → Standing l rec → stage ≡ rec.stage → place ≡ rec.place → part ≡ rec.part → hold ≡ rec.hold → found ≡ rec.found
    → set (set (set (set (set (set l 3 stage) 4 place) 5 part) 6 hold) 7 found) 8 rec.count ≡ numbers_of rec
unfolding numbers_of
rest_put l rec stage place part hold found s a b c d e =
    let n = s.nine in
    rw (a, b, c, d, e) (sets-eq (rec.stage ∷ rec.place ∷ rec.part ∷ rec.hold ∷ rec.found ∷ rec.count ∷ []) l 3 (omega arith)
    ∙ rw (s.sizes, drop_of_length-le l {i = 9} (omega arith)) refl)
