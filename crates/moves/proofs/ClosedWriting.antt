-- Closure under the writers' moves.
use Rattle.std.specs.Prelude.{◌≡◌, refl, Bool, true, false, ◌≢◌, ℕ, zero, suc, ◌≤◌, ◌<◌, ltb}
use Rattle.std.proofs.Common.{arith, ltb-true}
use Rattle.moves.specs.Base.{upd}
use Rattle.moves.proofs.Base.{upd_same, upd_other, upd_case, upd2_case}
use Rattle.moves.specs.Machine.{Stage, rest, ask1, ask2, roots, scan, sweep, graying_old, writing, Row, St, none}
use Rattle.moves.specs.Machine.{posted, tracing, hand, shade, set_colour, set_field, clear}
use Rattle.moves.specs.Writing.{Known, page, copy, drop, read, plan_of, first_phase, after_old, looked, Writing, load}
use Rattle.moves.specs.Writing.{answer_post, answer-start, answer-gray, answer-end, store-start, store-read, store-old}
use Rattle.moves.specs.Writing.{store-new, store-write, take, look, keep, white, written}
use Rattle.moves.proofs.Rows.{three-names, slots_in_lem}
use Rattle.moves.specs.Closure.{floor, Live, StatusFits, MayWhiten, MadeFits, MayAnswer, Open, RowOK, Closed}
use Rattle.moves.proofs.Closure.{floor-small, none_live, names_of, fits_of, closed-row, closed-by, kept-fits, closed-gray}

-- what a turn may put into a slot is live
known_live : {σ : Stage} {s : St} → Closed σ s → (r : Row) (v : ℕ) → RowOK σ s.N s.colour r → Known s r v
    → Live σ s.colour v
known_live c r v h (page l) = c.pages _ l
known_live c r v h (copy k b) = h.slots k b
known_live c r v h drop = none_live c
known_live c r v h (read k f b l) = c.fields _ f (h.slots k b) l

-- a live number is written into a field
pub closed-write : {σ : Stage} {s : St} → Closed σ s → (x f v : ℕ) → Live σ s.colour v → Closed σ (set_field s x f v)
closed-write {σ} {s} c x f v l = record {
  room = c.room;
  nil = c.nil;
  pages = c.pages;
  rows = c.rows;
  «open» = c.open;
  fields =
      λ y k h b. upd2_case (λ y k r. Live σ s.colour y → k < 4 → Live σ s.colour r) s.field x f v (λ _ _. l)
      (λ y k. c.fields y k) y k h b;
}

-- the open cell stays as it is when a free cell is taken
open_take : (σ : Stage) (c : ℕ → ℕ) (n : ℕ) → c n ≡ 0 → Open σ c → Open σ (upd c n 3)
open_take rest c n z o = tt
open_take ask1 c n z o = tt
open_take ask2 c n z o = tt
open_take (roots p) c n z o = tt
open_take (scan p zero h f) c n z o = upd_case (λ i x. 1 ≤ c i → 1 ≤ x) c n 3 (λ e. omega arith) (λ j m e. e) h o
open_take (scan p (suc k) h f) c n z o = (
  upd_case (λ i x. c i ≡ 2 → x ≡ 2) c n 3 (λ e. omega arith) (λ j m e. e) p o.0,
  upd_case (λ i x. 1 ≤ c i → 1 ≤ x) c n 3 (λ e. omega arith) (λ j m e. e) h o.1,
)
open_take (sweep p) c n z o = tt

-- the free cell n is taken
module _ {σ : Stage} {s : St} (c : Closed σ s) (n : ℕ) (l : n < s.N) (z : s.colour n ≡ 0) where
  -- what was live stays live when a free cell is taken
  take_up : (i : ℕ) → Live σ s.colour i → Live σ (upd s.colour n 3) i
  take_up = upd_case (λ i x. Live σ s.colour i → floor σ i ≤ x) _ n 3 (λ _. omega (arith, floor-small σ n)) (λ j m h. h)

  -- a free cell is taken: black, its fields none
  pub closed-take : Closed σ (clear (set_colour s n 3) n)
  closed-take = record {
    room = c.room;
    «open» = open_take σ s.colour n z c.open;
    nil = upd_case (λ i x. s.N ≤ i → x ≡ 3) _ n 3 (λ _. refl) (λ j m h. c.nil j h);
    pages = λ p h. take_up p (c.pages p h);
    fields = λ x f h b.
        upd_case (λ y r. Live σ (upd s.colour n 3) y → Live σ (upd s.colour n 3) (r f)) s.field n (λ f. none)
        (λ _. take_up none (none_live c))
        (λ y m h. take_up _ (c.fields y f (rw (upd_other s.colour n y 3 m) at h) b)) x h;
    rows = λ w h. let r = c.rows w h in record {
      status = r.status;
      fits = r.fits;
      slots = λ k b. take_up _ (r.slots k b);
      names = λ k. take_up _ (r.names k);
    };
  }

-- where white may be decided, a white cell is live
floor-white : (σ : Stage) (st n : ℕ) → MayWhiten σ st n → floor σ n ≤ 1
floor-white rest st n h = omega arith
floor-white ask1 st n h = omega arith
floor-white ask2 st n h = omega arith
floor-white (roots p) st n h = omega arith
floor-white (scan p k h' f) st n h = omega arith
floor-white (sweep p) st n h = omega arith

-- and the open cell stays gray, for in stage 4 white is not decided
open_white : (σ : Stage) (c : ℕ → ℕ) (st n : ℕ) → MayWhiten σ st n → Open σ c → Open σ (upd c n 1)
open_white rest c st n h o = tt
open_white ask1 c st n h o = tt
open_white ask2 c st n h o = tt
open_white (roots p) c st n h o = tt
open_white (scan p k h' f) c st n h o = absurd h
open_white (sweep p) c st n h o = tt

-- a creation that decided white makes its cell white
closed-white : {σ : Stage} {s : St} → Closed σ s → (st n : ℕ) → n < s.N → MayWhiten σ st n → Live σ s.colour n
    → Closed σ (set_colour s n 1)
closed-white {σ} {s} c st n b m l =
    closed-by c σ (upd s.colour n 1) s.count
    (upd_case (λ i x. Live σ s.colour i → floor σ i ≤ x) _ n 1 (λ _. floor-white σ st n m) (λ j e h. h))
    (upd_case (λ i x. floor σ i ≤ x → Live σ s.colour i) _ n 1 (λ _. l) (λ j e h. h))
    (upd_case (λ i x. s.N ≤ i → x ≡ 3) _ n 1 (λ h. omega arith) (λ j e h. c.nil j h))
    (open_white σ s.colour st n m c.open)
    (kept-fits c)

-- a posted number is a status that fits the stage
posted-fits : (σ : Stage) → 1 ≤ posted σ → StatusFits σ (posted σ)
posted-fits rest h = omega arith
posted-fits ask1 h = omega arith
posted-fits ask2 h = omega arith
posted-fits (roots p) h = omega arith
posted-fits (scan p k h' f) h = omega arith
posted-fits (sweep p) h = omega arith

-- an answer to posted 0 starts in stage 3, from status 2
answer-fits : (σ : Stage) (st : ℕ) → StatusFits σ st → posted σ ≡ 0 → st ≢ 0 → MayAnswer σ st
answer-fits rest st a b d = omega arith
answer-fits ask1 st a b d = omega arith
answer-fits ask2 st a b d = omega arith
answer-fits (roots p) st a b d = omega arith
answer-fits (scan p k h f) st a b d = omega arith
answer-fits (sweep p) st a b d = omega arith

-- where an answer goes on, status 0 fits
answered-fits : (σ : Stage) (st : ℕ) → MayAnswer σ st → StatusFits σ 0
answered-fits rest st a = absurd a
answered-fits ask1 st a = absurd a
answered-fits ask2 st a = absurd a
answered-fits (roots p) st a = omega arith
answered-fits (scan p k h f) st a = absurd a
answered-fits (sweep p) st a = absurd a

-- What the look decides fits the stage: it decides white only where that is allowed. Here creating white while tracing is
-- refused.
looked-fits : (σ : Stage) (N st n : ℕ) (b : Bool) → StatusFits σ st → n < N → ltb n (hand N σ) ≡ b
    → MadeFits (looked st b) σ st n
looked-fits σ N zero n false h l e = tt
looked-fits rest N zero n true h l e = tt
looked-fits ask1 N zero n true h l e = tt
looked-fits ask2 N zero n true h l e = tt
looked-fits (roots p) N zero n true h l e = omega (arith, ltb-true)
looked-fits (scan p k h' f) N zero n true h l e = omega (arith, ltb-true)
looked-fits (sweep p) N zero n true h l e = omega (arith, ltb-true)
looked-fits rest N (suc st) n b h l e = tt
looked-fits ask1 N (suc st) n b h l e = tt
looked-fits ask2 N (suc st) n b h l e = tt
looked-fits (roots p) N (suc st) n b h l e = omega arith
looked-fits (scan p k h' f) N (suc st) n b h l e = omega arith
looked-fits (sweep p) N (suc st) n b h l e = omega arith

-- every move of a writer keeps closure
pub closed-writing : {s : St} {σ : Stage} → Closed σ s → (m : Writing s σ) → Closed σ (written m)
closed-writing {s} {σ} c (load w k v a b d) = let r = c.rows w a in closed-row c w _ record {
  status = r.status;
  names = r.names;
  fits = r.fits;
  slots = slots_in_lem (Live σ s.colour) (s.rows w).slots k v (known_live c (s.rows w) v r d) r.slots;
}
closed-writing {s} {σ} c (answer_post w a b d) = let r = c.rows w a in closed-row c w _ record {
  status = posted-fits σ d;
  slots = r.slots;
  names = λ k. none_live c;
  fits = tt;
}
closed-writing {s} {σ} c (answer-start w a b d e) = let r = c.rows w a in closed-row c w _ record {
  status = r.status;
  slots = r.slots;
  names = λ k. none_live c;
  fits = answer-fits σ (s.rows w).status r.status d e;
}
closed-writing {s} {σ} c (answer-gray w k a b d) = let x = (c.rows w a).slots k d in let c' = closed-gray c ((s.rows w).slots k)
    s.count x in let r = c'.rows w a in closed-row c' w _ record {
      status = r.status;
      slots = r.slots;
      names = λ k. none_live c';
      fits = fits_of c w a b;
    }
closed-writing {s} {σ} c (answer-end w a b) = let r = c.rows w a in closed-row c w _ record {
  status = answered-fits σ (s.rows w).status (fits_of c w a b);
  slots = r.slots;
  names = λ k. none_live c;
  fits = tt;
}
closed-writing {s} {σ} c (store-start w x f y a b d) = let r = c.rows w a in closed-row c w _ record {
  status = r.status;
  slots = r.slots;
  fits = tt;
  names = three-names (Live σ s.colour) (plan_of (s.rows w).status (tracing σ))
      (first_phase (plan_of (s.rows w).status (tracing σ))) _ f _ none (r.slots x d.1) (r.slots y d.2) (none_live c);
}
closed-writing {s} {σ} c (store-read w p x f v o a b d) = let r = c.rows w a in let n = names_of c w a b in
    closed-row c w _ record {
      status = r.status;
      slots = r.slots;
      fits = tt;
      names = three-names (Live σ s.colour) p graying_old x f v _ (n 0) (n 1) (c.fields x f (n 0) d);
    }
closed-writing {s} {σ} c (store-old w p x f v o a b) = let c' = closed-gray c o s.count (names_of c w a b 2) in
    let r = c'.rows w a in let n = names_of c' w a b in closed-row c' w _ record {
      status = r.status;
      slots = r.slots;
      fits = tt;
      names = three-names (Live σ (upd s.colour o (shade (s.colour o)))) p (after_old p) x f v o (n 0) (n 1) (n 2);
    }
closed-writing {s} {σ} c (store-new w p x f v o a b) = let c' = closed-gray c v s.count (names_of c w a b 1) in
    let r = c'.rows w a in let n = names_of c' w a b in closed-row c' w _ record {
      status = r.status;
      slots = r.slots;
      fits = tt;
      names = three-names (Live σ (upd s.colour v (shade (s.colour v)))) p writing x f v o (n 0) (n 1) (n 2);
    }
closed-writing {s} {σ} c (store-write w p x f v o a b d) = let c' = closed-write c x f v (names_of c w a b 1) in
    let r = c'.rows w a in closed-row c' w _ record {
      status = r.status;
      slots = r.slots;
      fits = tt;
      names = λ k. none_live c';
    }
closed-writing {s} {σ} c (take w k n a b l z) = let c' = closed-take c n l z in let r = c'.rows w a in
    closed-row c' w _ record {
      status = r.status;
      slots = r.slots;
      fits = (l, tt);
      names = λ k. rw upd_same (omega (arith, floor-small σ n));
    }
closed-writing {s} {σ} c (look w k n a b) = let r = c.rows w a in let f = fits_of c w a b in closed-row c w _ record {
  status = r.status;
  slots = r.slots;
  names = names_of c w a b;
  fits = (f.0, looked-fits σ s.N (s.rows w).status n _ r.status f.0 refl);
}
closed-writing {s} {σ} c (keep w k n a b) = let r = c.rows w a in closed-row c w _ record {
  status = r.status;
  fits = tt;
  names = λ k. none_live c;
  slots = slots_in_lem (Live σ s.colour) (s.rows w).slots k n (names_of c w a b 0) r.slots;
}
closed-writing {s} {σ} c (white w k n a b) = let f = fits_of c w a b in let c' = closed-white c (s.rows w).status n f.0
    f.1 (names_of c w a b 0) in let r = c'.rows w a in closed-row c' w _ record {
      status = r.status;
      fits = tt;
      names = λ k. none_live c';
      slots = slots_in_lem (Live σ (upd s.colour n 1)) (s.rows w).slots k n (names_of c' w a b 0) r.slots;
    }
