-- The cell that a create takes was free.
use Rattle.std.specs.Prelude.{ℕ, ◌<◌, ◌≡◌, refl, List, [], ◌∷◌, length, get_or, Err, Ok, Result}
use Rattle.std.proofs.Common.{sym, ◌∙◌, ap, arith, get_or-set_same, ltb-true}
use Rattle.machine.specs.ChoiceLaws.{refuse-cases}
use Rattle.machine.specs.Limits.{none}
use Rattle.machine.specs.Store.{Store, Outcome, fresh_row}
use Rattle.machine.specs.Parts.{with_job}
use Rattle.machine.specs.Creating.{lowest_free, take_cell, take, create}
use Rattle.machine.specs.Writer.{turn_of}
use Rattle.machine.specs.Machine.{row_of, put_row, write, turn}
use Rattle.machine.specs.declared.Row.{Row}
use Rattle.machine.specs.declared.Refusal.{Refusal}
use Rattle.runs.proofs.Abs.{fit}
use Rattle.runs.proofs.Creating.{free_is}
use Rattle.runs.specs.Demand3.{carried, Free, creates, Takes}
use Rattle.machine.specs.Answer.{Answered}
use Rattle.machine.specs.declared.Answer.TheVariants.{Done, More, Worked, Waited}

-- a refusal isn't more
is_more : Answered → ℕ
is_more (Ok Done) = 0
is_more (Ok More) = 1
is_more (Ok Worked) = 0
is_more (Ok Waited) = 0
is_more (Err k) = 0

-- if the outcome is a creation of x, x is free
abbrev TakesFree : Store → ℕ → ℕ → Outcome Answered → Type 0
TakesFree st w x o = o.answer ≡ Ok More → carried (row_of o.store w).job ≡ x ∷ [] → Free st x

-- the first turn, by what the look for a free cell finds
room-free : (st : Store) (w s x : ℕ) → w < length st.desk → (r : Result ℕ Refusal) → lowest_free 0 st.colours ≡ r
    → TakesFree st w x (put_row st w (take (row_of st w) st.fields st.colours s r))
unfolding take take_cell with_job is_more
room-free st w s x a (Err k) q e h = absurd (omega (arith, ap is_more e))
room-free st w s x a (Ok c) q e h = let k = free_is 0 st.colours c q in
    let y : c ≡ x = sym (ap (λ (r : Row). get_or (carried r.job) 0 none) (get_or-set_same st.desk w _ fresh_row a)) ∙ ap (λ (l : List ℕ). get_or l 0 none) h in
    ap (λ i. get_or st.colours i 3) (omega (arith, k.1)) ∙ k.3

-- the cell that a create takes
pub takes-free : (st : Store) (w s x : ℕ) → Takes st w s x → Free st x
unfolding turn write turn_of create is_more
takes-free st w s x t = cases t.0 t.1
  where
    cases : TakesFree st w x (creates st w s)
    cases = refuse-cases (TakesFree st w x) _ _ _ (λ k (e : Err k ≡ Ok More) h. absurd (omega (arith, ap is_more e)))
        (λ t. refuse-cases (λ o. TakesFree st w x (put_row st w o)) _ _ _ (λ k (e : Err k ≡ Ok More) h. absurd (omega (arith, ap is_more e)))
        (λ u. room-free st w s x (omega (arith, (fit st t.0).desk, ltb-true w st.rec.m t.1.0)) (lowest_free 0 st.colours) refl))
