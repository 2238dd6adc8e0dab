-- From the census to the exported one.
use Rattle.std.specs.Prelude.{◌≡◌, ℕ, ◌/◌, ◌≤◌, true, false, List, [], ◌∷◌, length, take, Result, Ok, Err}
use Rattle.std.proofs.Common.{refl, ap, ◌∙◌, eq-eqb, ne_eqb}
use Rattle.machine.specs.Choice.{refuse}
use Rattle.machine.specs.Census.{census}
use Rattle.machine.specs.declared.Row.{Row}
use Rattle.machine.specs.declared.Counts.{Counts}
use Rattle.machine.specs.declared.Answer.TheVariants.{Done}
use Rattle.machine.specs.declared.Refusal.{Refusal}
use Rattle.machine.specs.declared.Refusal.TheVariants.{BadSize}
use Rattle.census.specs.Counting.{census_by as core_by}
use Rattle.census.proofs.ByValue.{core_on}
use Rattle.turns.specs.Plain.{record_of, desk_of, answer_number}
use Rattle.turns.specs.Calls.{Lent, lent, store_of, shaped, counted, told, census_by}
use Rattle.turns.proofs.Desk.{desk-length}

module _ (numbers words fs cs counts : List ℕ) where
  abbrev p : Lent
  p = lent numbers words fs cs

  abbrev Refused : Type 0
  Refused = counted (answer_number (Err BadSize)) counts ≡ census_by p counts

  pub census_shapeless : shaped (length numbers) (length words) ≡ false → Refused
  unfolding census_by refuse answer_number
  census_shapeless e = rw e refl

  module _ (fit : shaped (length numbers) (length words) ≡ true) where
    pub census_unsix : (length counts ≡ 6 → ⊥) → Refused
    unfolding census_by refuse answer_number
    census_unsix h = rw (fit, ne_eqb (length counts) 6 h) refl

    module _ (six : length counts ≡ 6) where
      by_machine : told counts (census (store_of p)).answer ≡ census_by p counts
      unfolding census_by refuse
      by_machine = rw (fit, eq-eqb (length counts) 6 six) refl

      -- own are the desk's rows, if they are no more than eight
      module _ (own : List Row) (same : length words / 16 ≤ 8 → take (length words / 16) own ≡ desk_of words) where
        abbrev by_core : Result Counts Refusal
        by_core = core_by (record_of numbers) (length words / 16) own fs cs

        is_told : (r : Result Counts Refusal) → r ≡ by_core → told counts r ≡ census_by p counts
        is_told r e = ap (told counts) (e ∙ core_on (record_of numbers) (length words / 16) own fs cs (desk_of words) (desk-length words) same) ∙ by_machine

        pub census_kept : (k : Refusal) → Err k ≡ by_core → counted (answer_number (Err k)) counts ≡ census_by p counts
        unfolding told answer_number
        census_kept k e = is_told (Err k) e

        pub census_put : (c : Counts) (ys : List ℕ) → Ok c ≡ by_core → ys ≡ c.free ∷ c.white ∷ c.gray ∷ c.black ∷ c.held ∷ c.floating ∷ [] → counted (answer_number (Ok Done)) ys ≡ census_by p counts
        unfolding told answer_number
        census_put c ys m e = rw e (is_told (Ok c) m)
