-- Where a call's tests of refusals 1 and 2 hold, only refusals from 3 on are met.
use Rattle.std.specs.Prelude.{◌≤◌, ◌≡◌, refl, ◌⊎◌, List, [], ◌∷◌, Bool, true, false}
use Rattle.std.proofs.Common.{sym, ◌∙◌, inl, inr}
use Rattle.std.proofs.lemmas.Bool.{false≢true}
use Rattle.machine.specs.Choice.{pick, refuse}
use Rattle.machine.specs.ChoiceLaws.{Passed}
use Rattle.runs.specs.Refused.{Clear}
use Rattle.machine.specs.Answer.{number}
use Rattle.machine.specs.declared.Refusal.{Refusal}

-- where each of the tests holds, but for those whose refusal has a number from 3 on, only such refusals are met
pub refuse-clear : {A : Type 0} (P : A → Type 0) (say : Refusal → A) (ts : List (Bool × Refusal)) (o : A) → Clear ts → ((k : Refusal) → 3 ≤ number k → P (say k))
    → (Passed ts → P o) → P (refuse say ts o)
unfolding refuse
refuse-clear P say [] o c r h = h tt
refuse-clear P say (t ∷ ts) o c r h = go t.0 refl c.0 (λ e. refuse-clear P say ts o c.1 r (λ p. h (e, p)))
  where
    go : (b : Bool) → t.0 ≡ b → (t.0 ≡ true) ⊎ (3 ≤ number t.1) → (t.0 ≡ true → P (refuse say ts o)) → P (pick b (refuse say ts o) (say t.1))
    go true e c h = h e
    go false e (inl z) h = absurd (false≢true (sym e ∙ z))
    go false e (inr l) h = r t.1 l
