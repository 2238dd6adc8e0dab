-- The rows in the desk's words, copied.
use Rattle.std.specs.Prelude.{◌≡◌, ℕ, zero, suc, ◌/◌, ◌<◌, ◌≤◌, List, length, get_or, take}
use Rattle.std.proofs.Common.{sym, subst, ◌∙◌, arith, take_all}
use Rattle.std.proofs.lemmas.List.{ext_get_or, get_or-take, length-take-le}
use Rattle.machine.specs.Store.{fresh_row}
use Rattle.machine.specs.declared.Row.{Row}
use Rattle.turn.specs.Lent.{own_rows}
use Rattle.turn.proofs.OwnRows.{own_few, own_le, own_all}
use Rattle.turns.specs.Plain.{desk_of}
use Rattle.turns.proofs.Desk.{desk-length}

module _ (words : List ℕ) (own : List Row) where
  -- the desk's rows, or the first eight where it has more
  abbrev Gathered : Type 0
  Gathered = take (own_rows (length (desk_of words))) own ≡ take (own_rows (length (desk_of words))) (desk_of words)

  -- own's row i is the desk's
  abbrev Same : ℕ → Type 0
  Same i = get_or own i fresh_row ≡ get_or (desk_of words) i fresh_row

  pub gathered : length own ≡ 8 → Same 0 → Same 1 → Same 2 → Same 3 → Same 4 → Same 5 → Same 6 → Same 7 → Gathered
  gathered eight a b c d e f g h =
      let n = own_rows (length (desk_of words)) in
      let few : n ≤ 8 = own_few (length (desk_of words)) in
      let long = length-take-le n own (subst (λ k. n ≤ k) (sym eight) few) in
      ext_get_or fresh_row (take n own) (take n (desk_of words)) (long ∙ sym (length-take-le n (desk_of words) (own_le _)))
      (λ i k.
      let l : i < n = subst (λ m. i < m) long k in
      get_or-take n own i fresh_row l ∙ same i (omega arith) ∙ sym (get_or-take n (desk_of words) i fresh_row l))
    where
      same : (i : ℕ) → i < 8 → Same i
      same zero k = a
      same (suc zero) k = b
      same (suc (suc zero)) k = c
      same (suc (suc (suc zero))) k = d
      same (suc (suc (suc (suc zero)))) k = e
      same (suc (suc (suc (suc (suc zero))))) k = f
      same (suc (suc (suc (suc (suc (suc zero)))))) k = g
      same (suc (suc (suc (suc (suc (suc (suc zero))))))) k = h
      same (suc (suc (suc (suc (suc (suc (suc (suc i)))))))) k = absurd (omega arith)

  -- of at most eight, all
  pub all_gathered : Gathered → length words / 16 ≤ 8 → take (length words / 16) own ≡ desk_of words
  all_gathered e few =
      let n = length (desk_of words) in
      let all : own_rows n ≡ n = own_all n (subst (λ m. m ≤ 8) (sym (desk-length words)) few) in
      let same : take n own ≡ take n (desk_of words) = subst (λ m. take m own ≡ take m (desk_of words)) all e in
      subst (λ m. take m own ≡ desk_of words) (desk-length words) (same ∙ take_all n (desk_of words) (omega arith))
