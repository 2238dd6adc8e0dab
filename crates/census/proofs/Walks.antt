-- How the walk goes: one push, and the pushes of the loops.
use Rattle.std.specs.Prelude.{◌≡◌, ℕ, zero, suc, ◌+◌, ◌-◌, ◌*◌, ◌<◌, ◌≤◌, ◌≢◌, Bool, true, false, List, [], ◌∷◌, ◌++◌, length, get_or, take, drop, set}
use Rattle.std.specs.List.{FoldsTo, range_with_len}
use Rattle.std.proofs.lemmas.Fn.{FoldsTo-push}
use Rattle.std.proofs.Common.{append_assoc, append-nil}
use Rattle.std.proofs.lemmas.List.{take_more}
use mathlib.Core.Path.{refl, sym, ap, ◌∙◌}
use native.Mathlib.Omega.{arith}
use native.Mathlib.Numerals.{add-one}
use lib.ListN.{length-set}
use lib.Seq.{drop-cons}
use Rattle.machine.specs.Choice.{pick}
use Rattle.machine.specs.Parts.{colour_of}
use Rattle.machine.specs.Census.{slots, fields_of}
use Rattle.machine.specs.declared.Row.{Row}
use Rattle.census.specs.declared.reach.Walk.{Walk}
use Rattle.census.specs.Room.{unmarked, Room}
use Rattle.census.specs.Walk.{On, Off, Pushed, stays, Pushing}

-- a cell in use is a cell
pub used-below : (colours : List ℕ) (c : ℕ) → colour_of colours c ≢ 0 → c < length colours
used-below [] c u = absurd (u refl)
used-below (x ∷ xs) zero u = omega arith
used-below (x ∷ xs) (suc c) u = let h = used-below xs c u in omega arith

past-free : (colours : List ℕ) (c : ℕ) → length colours ≤ c → colour_of colours c ≢ 0 → ⊥
past-free colours c b u = let h = used-below colours c u in omega arith

-- ---- v is pushed: what is no cell, is free or is marked stays as it is
pub past_stays : (w : Walk) (v : ℕ) → length w.colours.now ≤ v → Pushed w v w
past_stays w v h = stays (λ u. absurd (past-free w.colours.now v h u))

pub free_stays : (w : Walk) (v : ℕ) → colour_of w.colours.now v ≡ 0 → Pushed w v w
free_stays w v h = stays (λ u. absurd (u h))

pub marked_stays : (w : Walk) (v : ℕ) → On w v → Pushed w v w
marked_stays w v h = stays (λ u. h)

-- ---- how many are not marked: a new mark counts once
unmarked-set : (m : List Bool) (v n : ℕ) → v < length m → get_or m v false ≡ false → v < n → suc (unmarked (set m v true) n) ≡ unmarked m n
unfolding unmarked
unmarked-set [] v n b q h = absurd (omega arith)
unmarked-set (y ∷ m) v zero b q h = absurd (omega arith)
unmarked-set (y ∷ m) zero (suc n) b q h = rw q refl
unmarked-set (y ∷ m) (suc v) (suc n) b q h = go y (unmarked-set m v n (omega arith) q (omega arith))
  where
    go : (t : Bool) → suc (unmarked (set m v true) n) ≡ unmarked m n → suc (pick t (unmarked (set m v true) n) (suc (unmarked (set m v true) n))) ≡ pick t (unmarked m n) (suc (unmarked m n))
    go true e = e
    go false e = ap suc e

-- so there is a place for a cell that is not marked, and room as before once it is there
module _ (w : Walk) (v : ℕ) (h : v < length w.colours.now) (q : Off w v) where
  pub fewer : suc (unmarked (set w.marks v true) (length w.colours.now)) ≡ unmarked w.marks (length w.colours.now)
  fewer = unmarked-set w.marks v (length w.colours.now) (omega (arith, w.room.cells, w.room.marks)) q h

  pub place-new : length w.stack.items < 4096
  place-new = omega (arith, w.room.cells, w.room.places, fewer)

  pub room-new : (s : List ℕ) → length s ≡ length w.stack.items + 1 → Room w.colours.now (set w.marks v true) s
  room-new s e = record { cells = w.room.cells; marks = length-set w.marks v true ∙ w.room.marks; places = omega (arith, e, w.room.places, fewer) }

-- ---- the loops
join : (vs us : List ℕ) (w w' w'' : Walk) → FoldsTo Pushed w vs w' → FoldsTo Pushed w' us w'' → FoldsTo Pushed w (vs ++ us) w''
join [] us w w' w'' k j = rw k j
join (v ∷ vs) us w w' w'' k j = (k.0, k.1, join vs us k.0 w' w'' k.2 j)

range-suc : (a n j : ℕ) → a + n ≡ j → range_with_len a (suc n) ≡ range_with_len a n ++ j ∷ []
range-suc a zero j e = let k : a ≡ j = omega arith in ap (λ (x : ℕ). x ∷ []) k
range-suc a (suc n) j e = ap (λ (l : List ℕ). a ∷ l) (range-suc (a + 1) n j (omega arith))

range-more : (n : ℕ) → range_with_len 0 (n + 1) ≡ range_with_len 0 n ++ n ∷ []
range-more n = rw add-one (range-suc 0 n n (omega arith))

slots-push : (rows : List Row) (row : Row) → slots (rows ++ row ∷ []) ≡ slots rows ++ row.slots
unfolding slots
slots-push [] row = append-nil row.slots
slots-push (r ∷ rows) row = ap (λ (l : List ℕ). r.slots ++ l) (slots-push rows row) ∙ sym (append_assoc r.slots (slots rows) row.slots)

pub slots-start : (w : Walk) → Pushing w (slots []) w
unfolding slots
slots-start w = refl

module _ (w w' w'' : Walk) where
  -- the numbers of a list
  pub list-more : (l : List ℕ) (i : ℕ) → Pushing w (take i l) w' → i < length l → Pushed w' (get_or l i 0) w'' → Pushing w (take (i + 1) l) w''
  list-more l i k b p = rw (take_more l i 0 b) (FoldsTo-push Pushed w (take i l) w' (get_or l i 0) w'' k p)

  -- the pages
  pub pages-more : (n : ℕ) → Pushing w (range_with_len 0 n) w' → Pushed w' n w'' → Pushing w (range_with_len 0 (n + 1)) w''
  pages-more n k p = rw (range-more n) (FoldsTo-push Pushed w (range_with_len 0 n) w' n w'' k p)

  -- the slots of the rows
  pub slots-more : (desk : List Row) (d : Row) (i : ℕ) → Pushing w (slots (take i desk)) w' → i < length desk → Pushing w' (get_or desk i d).slots w'' → Pushing w (slots (take (i + 1) desk)) w''
  slots-more desk d i k b p =
      rw (take_more desk i d b, slots-push (take i desk) (get_or desk i d))
      (join (slots (take i desk)) (get_or desk i d).slots w w' w'' k p)

-- the fields of a cell
field_next : (fields : List ℕ) (a b n : ℕ) → a < length fields → b ≡ a + 1 → take (suc n) (drop a fields) ≡ get_or fields a 0 ∷ take n (drop b fields)
field_next fields a b n h e = rw (drop-cons fields a 0 h, e, add-one a)

four-fields : (fields : List ℕ) (c : ℕ) → c * 4 + 4 ≤ length fields → take 4 (drop (c * 4) fields) ≡ fields_of fields c
four-fields fields c h =
    let z : c * 4 + 0 ≡ c * 4 = omega arith in
    rw (
      z,
      field_next fields (c * 4) (c * 4 + 1) 3 (omega arith) refl,
      field_next fields (c * 4 + 1) (c * 4 + 2) 2 (omega arith) (omega arith),
      field_next fields (c * 4 + 2) (c * 4 + 3) 1 (omega arith) (omega arith),
      field_next fields (c * 4 + 3) (c * 4 + 4) 0 (omega arith) (omega arith),
    )
    refl

pub fields_pushed : (w w' : Walk) (fields : List ℕ) (c : ℕ) → c * 4 + 4 ≤ length fields → Pushing w (take (c * 4 + 4 - c * 4) (drop (c * 4) fields)) w' → Pushing w (fields_of fields c) w'
fields_pushed w w' fields c h k =
    let n : c * 4 + 4 - c * 4 ≡ 4 = omega arith in
    rw (n, four-fields fields c h) at k

pub ruleset pushes = (past_stays, free_stays, marked_stays, place-new, list-more, pages-more, slots-start, slots-more)
