-- From the census over the lent desk to the census by value, and back.
use Rattle.std.specs.Prelude.{◌≡◌, ℕ, ◌<◌, ◌≤◌, Bool, true, false, List, [], ◌∷◌, length, take, Result, Err}
use Rattle.std.proofs.Common.{refl, sym, ap, ◌∙◌, arith, eqb-true}
use Rattle.std.proofs.lemmas.List.{length-take-le}
use Rattle.machine.specs.Choice.{pick, refuse}
use Rattle.machine.specs.ChoiceLaws.{hold, refuse-map}
use Rattle.machine.specs.Limits.{sizes_ok, lengths_ok}
use Rattle.machine.specs.Store.{Store, Outcome, outcome, parts, fits}
use Rattle.machine.specs.Census.{census}
use Rattle.machine.specs.Machine.{counting, outcome_of, said_in, Meets}
use Rattle.machine.proofs.AnswerLaws.{report_said}
use Rattle.machine.specs.declared.Record.{Record}
use Rattle.machine.specs.declared.Row.{Row}
use Rattle.machine.specs.declared.Counts.{Counts}
use Rattle.machine.specs.declared.Refusal.{Refusal}
use Rattle.machine.specs.declared.Refusal.TheVariants.{BadSize}
use Rattle.turn.specs.Lent.{own_rows}
use Rattle.turn.proofs.Sizes.{small_m}
use Rattle.turn.proofs.OwnRows.{own_length}
use Rattle.census.specs.Counting.{census_by}

-- the census changes nothing
refuse-same : {A : Type 0} (ts : List (Bool × Refusal)) (o : A) → refuse (λ k. o) ts o ≡ o
unfolding refuse
refuse-same [] o = refl
refuse-same (t ∷ ts) o = go t.0 (refuse-same ts o)
  where
    go : (b : Bool) → refuse (λ k. o) ts o ≡ o → pick b (refuse (λ k. o) ts o) o ≡ o
    go true e = e
    go false e = refl

module _ (st : Store) where
  leaves : (census st).store ≡ st
  unfolding census
  leaves = refuse-map (λ (o : Outcome (Result Counts Refusal)). o.store) (λ k. outcome (Err k) st) (λ k. st) (λ k. refl) _ _ ∙ refuse-same _ st

  counted_meets : (r : Result Counts Refusal) → r ≡ (census st).answer → Meets counting st r st
  unfolding outcome_of
  counted_meets r e = record { says = ap (λ (a : Result Counts Refusal). said_in counting a) e; leaves = sym leaves }

  meets_counted : (r : Result Counts Refusal) → Meets counting st r st → r ≡ (census st).answer
  unfolding outcome_of
  meets_counted r m = report_said r _ m.says

module _ (rec : Record) (rows : ℕ) (own : List Row) (fs cs : List ℕ) where
  core_is : length (take rows own) ≡ rows → census_by rec rows own fs cs ≡ (census (parts rec (take rows own) fs cs)).answer
  unfolding census census_by fits
  core_is e = rw e (sym (refuse-map (λ (o : Outcome (Result Counts Refusal)). o.answer) (λ k. outcome (Err k) (parts rec (take rows own) fs cs)) Err (λ k. refl) _ _))

  pub core_made : (r : Result Counts Refusal) → length own ≡ 8 → rows ≤ 8 → Meets counting (parts rec (take rows own) fs cs) r (parts rec (take rows own) fs cs) → r ≡ census_by rec rows own fs cs
  core_made r e b m = meets_counted (parts rec (take rows own) fs cs) r m ∙ sym (core_is (length-take-le rows own (omega arith)))

  -- of a desk in another form, whose rows are own's if they are no more than eight
  pub core_on : (desk : List Row) → length desk ≡ rows → (rows ≤ 8 → take rows own ≡ desk) → census_by rec rows own fs cs ≡ (census (parts rec desk fs cs)).answer
  unfolding census_by census fits refuse sizes_ok lengths_ok
  core_on desk l s = go (sizes_ok rec.n rec.g rec.m rows (length fs) (length cs)) refl
    where
      go : (b : Bool) → sizes_ok rec.n rec.g rec.m rows (length fs) (length cs) ≡ b → census_by rec rows own fs cs ≡ (census (parts rec desk fs cs)).answer
      go true e =
          let t : take rows own ≡ desk = s (omega (arith, eqb-true rows rec.m (hold _ (hold _ e).1.0).1.1.0, small_m _ _ _ _ fs cs e)) in
          core_is (ap length t ∙ l) ∙ ap (λ (d : List Row). (census (parts rec d fs cs)).answer) t
      go false e = rw (l, e, census_by, census, fits, refuse) refl

  -- no store has more than eight rows
  pub core_crowded : 8 < rows → Err BadSize ≡ census_by rec rows own fs cs
  unfolding census_by refuse sizes_ok lengths_ok
  core_crowded h = go (sizes_ok rec.n rec.g rec.m rows (length fs) (length cs)) refl
    where
      go : (b : Bool) → sizes_ok rec.n rec.g rec.m rows (length fs) (length cs) ≡ b → Err BadSize ≡ census_by rec rows own fs cs
      go true e = absurd (omega (arith, h, eqb-true rows rec.m (hold _ (hold _ e).1.0).1.1.0, small_m _ _ _ _ fs cs e))
      go false e = rw (e, census_by, refuse) refl

-- of kept rows
pub kept_made : (rec : Record) (rows : List Row) (fs cs : List ℕ) (r : Result Counts Refusal) → length rows ≡ 8 → r ≡ census_by rec (own_rows rec.m) rows fs cs → Meets counting (parts rec (take (own_rows rec.m) rows) fs cs) r (parts rec (take (own_rows rec.m) rows) fs cs)
kept_made rec rows fs cs r b e = counted_meets (parts rec (take (own_rows rec.m) rows) fs cs) r (e ∙ core_is rec (own_rows rec.m) rows fs cs (own_length rec.m rows b))
