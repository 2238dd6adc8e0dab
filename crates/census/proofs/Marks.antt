-- What the walk keeps true, and what it ends in.
use Rattle.std.specs.Prelude.{◌≡◌, ℕ, zero, suc, ◌+◌, ◌*◌, ◌<◌, ◌≤◌, ◌⊎◌, Bool, true, false, List, [], ◌∷◌, ◌++◌, length, get_or, set, replicate}
use Rattle.std.specs.Borrow.{Bor}
use Rattle.std.specs.List.{range_with_len}
use mathlib.Core.Path.{refl, sym, ap, ◌∙◌}
use mathlib.Core.Logic.{inl, inr}
use native.Mathlib.Omega.{arith}
use native.Mathlib.Decide.{ℕ_discrete}
use Rattle.std.proofs.lemmas.Bool.{false_from_ne_true, true≢false}
use lib.ListN.{length-append, length-replicate}
use lib.Seq.{get_or-set_same, get_or-set_other}
use Rattle.machine.specs.Parts.{field_of}
use Rattle.machine.specs.Store.{Store, parts}
use Rattle.machine.specs.Census.{In, pages, slots, roots, fields_of, InUse, Held, root, field, in_use, unreached}
use Rattle.machine.proofs.CensusLaws.{held-exact, floating_exact, in_left, in_right, in_either}
use Rattle.machine.specs.declared.Record.{Record}
use Rattle.machine.specs.declared.Row.{Row}
use Rattle.cells.specs.Sized.{Sized}
use Rattle.arrayvec.specs.ArrayVec.{ArrayVec}
use Rattle.census.specs.declared.reach.Walk.{Walk}
use Rattle.census.specs.Room.{unmarked, Room}
use Rattle.census.specs.Walk.{Used, On, missing, waiting, Fresh, Pushed, stays, new, Pushing}
use Rattle.census.proofs.Walks.{used-below, fewer}
use Rattle.census.proofs.Counting.{marks-count, blank}

-- ---- one push: nothing is unmarked, v is marked, and marks missing and places taken stay the same together
on-set : (m : List Bool) (x c : ℕ) → x < length m → get_or m c false ≡ true → Dec (c ≡ x) → get_or (set m x true) c false ≡ true
on-set m x c b p (yes e) = rw (e, get_or-set_same m x true false b)
on-set m x c b p (no n) = rw (get_or-set_other m x c true false n) p

set_on : (m : List Bool) (x c : ℕ) → get_or (set m x true) c false ≡ true → (c ≡ x → ⊥) → get_or m c false ≡ true
set_on m x c p n = rw (get_or-set_other m x c true false n) at p

in-marks : (w : Walk) (x : ℕ) → Used w x → x < length w.marks
in-marks w x u = omega (arith, used-below w.colours.now x u, w.room.cells, w.room.marks)

pushed_keeps : {w : Walk} {x : ℕ} {w' : Walk} → Pushed w x w' → (c : ℕ) → On w c → On w' c
pushed_keeps (stays h) c p = p
pushed_keeps {w} {x} (new n) c p = rw n.marks (on-set w.marks x c (in-marks w x n.used) p (ℕ_discrete c x))

pushed_on : {w : Walk} {x : ℕ} {w' : Walk} → Pushed w x w' → Used w x → On w' x
pushed_on (stays h) k = h k
pushed_on {w} {x} (new n) k = rw n.marks (get_or-set_same w.marks x true false (in-marks w x n.used))

pushed_sum : {w : Walk} {x : ℕ} {w' : Walk} → Pushed w x w' → missing w' + waiting w' ≡ missing w + waiting w
pushed_sum (stays h) = refl
pushed_sum {w} {x} (new n) = rw (n.marks, n.colours, n.stack) (omega (arith, fewer w x (used-below w.colours.now x n.used) n.fresh, length-append w.stack.items (x ∷ [])))

-- the colours stay as they are
pushed_same : {w : Walk} {x : ℕ} {w' : Walk} → Pushed w x w' → w'.colours ≡ w.colours
pushed_same (stays h) = refl
pushed_same (new n) = n.colours

-- ---- several
pushes_keeps : (vs : List ℕ) (w w' : Walk) → Pushing w vs w' → (c : ℕ) → On w c → On w' c
pushes_keeps [] w w' k c o = rw k at o
pushes_keeps (v ∷ vs) w w' k c o = pushes_keeps vs k.0 w' k.2 c (pushed_keeps k.1 c o)

pushes_sum : (vs : List ℕ) (w w' : Walk) → Pushing w vs w' → missing w' + waiting w' ≡ missing w + waiting w
pushes_sum [] w w' k = rw k refl
pushes_sum (v ∷ vs) w w' k = pushes_sum vs k.0 w' k.2 ∙ pushed_sum k.1

pushes_on : (vs : List ℕ) (w w' : Walk) → Pushing w vs w' → (c : ℕ) → In c vs → Used w c → On w' c
pushes_on [] w w' k c i u = absurd i
pushes_on (v ∷ vs) w w' k c (inl e) u = pushes_keeps vs k.0 w' k.2 c (rw e (pushed_on k.1 (rw e at u)))
pushes_on (v ∷ vs) w w' k c (inr i) u = pushes_on vs k.0 w' k.2 c i (rw (pushed_same k.1) u)

-- ---- membership
named_by : (fields : List ℕ) (x c : ℕ) → In c (fields_of fields x) → (f : ℕ) × (f < 4) × (c ≡ field_of fields x f)
named_by fields x c (inl e) = (0, omega arith, e)
named_by fields x c (inr (inl e)) = (1, omega arith, e)
named_by fields x c (inr (inr (inl e))) = (2, omega arith, e)
named_by fields x c (inr (inr (inr (inl e)))) = (3, omega arith, e)
named_by fields x c (inr (inr (inr (inr h)))) = absurd h

names : (fields : List ℕ) (x f : ℕ) → f < 4 → In (field_of fields x f) (fields_of fields x)
names fields x zero b = inl refl
names fields x (suc zero) b = inr (inl refl)
names fields x (suc (suc zero)) b = inr (inr (inl refl))
names fields x (suc (suc (suc zero))) b = inr (inr (inr (inl refl)))
names fields x (suc (suc (suc (suc f)))) b = absurd (omega arith)

-- the pages in the order of their numbers are the pages
from_range : (a n c : ℕ) → In c (range_with_len a n) → c < a + n
from_range a zero c i = absurd i
from_range a (suc n) c (inl e) = omega arith
from_range a (suc n) c (inr i) = let h = from_range (a + 1) n c i in omega arith

in_range : (a n c : ℕ) → a ≤ c → c < a + n → In c (range_with_len a n)
in_range a zero c l h = absurd (omega arith)
in_range a (suc n) c l h = go (ℕ_discrete c a) (λ k. in_range (a + 1) n c k (omega arith))
  where
    go : Dec (c ≡ a) → (a + 1 ≤ c → In c (range_with_len (a + 1) n)) → In c (range_with_len a (suc n))
    go (yes e) k = inl e
    go (no d) k = inr (k (omega arith))

page_of : (g c : ℕ) → c < g → In c (pages g)
unfolding pages
page_of zero c h = absurd (omega arith)
page_of (suc g) c h = go (ℕ_discrete c g) (page_of g c)
  where
    go : Dec (c ≡ g) → (c < g → In c (pages g)) → In c (pages (suc g))
    go (yes e) k = inl e
    go (no d) k = inr (k (omega arith))

page-below : (g c : ℕ) → In c (pages g) → c < g
unfolding pages
page-below zero c i = absurd i
page-below (suc g) c (inl e) = omega arith
page-below (suc g) c (inr i) = let h = page-below g c i in omega arith

-- ---- the walk begins: nothing is marked
none-on : (c : ℕ) → get_or (replicate 4096 false) c false ≡ true → ⊥
none-on c p = true≢false (sym p ∙ blank 4096 c)

unmarked-none : (m : List Bool) (n : ℕ) → ((c : ℕ) → get_or m c false ≡ true → ⊥) → unmarked m n ≡ n
unfolding unmarked
unmarked-none m zero h = refl
unmarked-none [] (suc n) h = ap suc (unmarked-none [] n (λ c. h c))
unmarked-none (y ∷ m) (suc n) h = rw (false_from_ne_true y (h 0), unmarked-none m n (λ c. h (suc c)))

pub fresh_room : (colours stack : List ℕ) → length colours ≤ 4096 → stack ≡ [] → Room colours (replicate 4096 false) stack
fresh_room colours stack b e = record {
  cells = b;
  marks = length-replicate {A = Bool} 4096 false;
  places = omega (arith, unmarked-none (replicate 4096 false) (length colours) none-on, ap length e);
}

-- no cell is being opened
abbrev nobody : ℕ
nobody = 65535

-- ---- the walk in the store st
module _ (st : Store) where
  -- what c's fields name is marked
  abbrev Spread : Walk → ℕ → Type 0
  Spread w c = (f : ℕ) → f < 4 → InUse st (field_of st.fields c f) → On w (field_of st.fields c f)

  abbrev Where : Walk → ℕ → ℕ → Type 0
  Where w hole c = In c w.stack.items ⊎ (Spread w c ⊎ (c ≡ hole))

  -- marked cells are held, and each is on the stack, or spread, or the one that is being opened
  record Midway (w : Walk) (hole : ℕ) : Type 0 where
    cells : w.colours.now ≡ st.colours
    sound : (c : ℕ) → On w c → Held st c
    on : (c : ℕ) → In c w.stack.items → On w c
    done : (c : ℕ) → On w c → Where w hole c

  pushed_midway : {w : Walk} {x hole : ℕ} {w' : Walk} → Midway w hole → (InUse st x → Held st x) → Pushed w x w' → Midway w' hole
  pushed_midway m h (stays k) = m
  pushed_midway {w} {x} {hole} {w'} m h (new n) =
      record { cells = rw n.colours m.cells; sound = λ c p. held c p (ℕ_discrete c x); on = λ c i. on c (in_either c w.stack.items (x ∷ []) (rw n.stack at i)); done = λ c p. place c p (ℕ_discrete c x) }
    where
      before : (c : ℕ) → On w' c → (c ≡ x → ⊥) → On w c
      before c p d = set_on w.marks x c (rw n.marks at p) d

      held : (c : ℕ) → On w' c → Dec (c ≡ x) → Held st c
      held c p (yes e) = rw e (h (rw m.cells at n.used))
      held c p (no d) = m.sound c (before c p d)

      on : (c : ℕ) → In c w.stack.items ⊎ In c (x ∷ []) → On w' c
      on c (inl i) = pushed_keeps (new n) c (m.on c i)
      on c (inr (inl e)) = rw e (pushed_on (new n) n.used)
      on c (inr (inr i)) = absurd i

      old : (c : ℕ) → Where w hole c → Where w' hole c
      old c (inl i) = inl (rw n.stack (in_left c w.stack.items (x ∷ []) i))
      old c (inr (inl k)) = inr (inl (λ f i v. pushed_keeps (new n) (field_of st.fields c f) (k f i v)))
      old c (inr (inr k)) = inr (inr k)

      place : (c : ℕ) → On w' c → Dec (c ≡ x) → Where w' hole c
      place c p (yes e) = inl (rw n.stack (in_right c w.stack.items (x ∷ []) (inl e)))
      place c p (no d) = old c (m.done c (before c p d))

  pushes_midway : (vs : List ℕ) (w w' : Walk) (hole : ℕ) → Midway w hole → ((c : ℕ) → In c vs → InUse st c → Held st c) → Pushing w vs w' → Midway w' hole
  pushes_midway [] w w' hole m h k = rw k at m
  pushes_midway (v ∷ vs) w w' hole m h k = pushes_midway vs k.0 w' hole (pushed_midway m (h v (inl refl)) k.1) (λ c i. h c (inr i)) k.2

  held_below : (c : ℕ) → Held st c → c < length st.colours
  held_below c h = used-below st.colours c ((held-exact st c).0 h).0

  -- ---- the loop's invariant: o cells were opened
  pub record Working (w : Walk) (o : ℕ) : Type 0 where
    midway : Midway w nobody
    four : length st.colours * 4 ≡ length st.fields
    begun : (c : ℕ) → In c (roots st) → InUse st c → On w c
    count : o + (missing w + waiting w) ≡ length w.colours.now

  module _ (w : Walk) (o : ℕ) (k : Working w o) where
    pub work_few : o ≤ 4096
    work_few = omega (arith, w.room.cells, k.count)

    same : length w.colours.now ≡ length st.colours
    same = ap length k.midway.cells

    -- the newest, c, is taken off the stack
    module _ (c : ℕ) (stack : ArrayVec ℕ) (e : w.stack.items ≡ stack.items ++ c ∷ []) where
      -- it is held, so it is a cell
      top-held : Held st c
      top-held = k.midway.sound c (k.midway.on c (rw e (in_right c stack.items (c ∷ []) (inl refl))))

      pub taken-cell : c * 4 + 4 ≤ length st.fields
      taken-cell = omega (arith, held_below c top-held, k.four)

      one-less : waiting w ≡ length stack.items + 1
      one-less = rw e (length-append stack.items (c ∷ []))

      module _ (room : Room w.colours.now w.marks stack.items) where
        abbrev w₁ : Walk
        w₁ = record { colours = w.colours; marks = w.marks; stack = stack; room = room }

        taken_off : Midway w₁ c
        taken_off = record { cells = k.midway.cells; sound = k.midway.sound; on = λ d i. k.midway.on d (rw e (in_left d stack.items (c ∷ []) i)); done = λ d p. place d (held_below d (k.midway.sound d p)) (k.midway.done d p) }
          where
            off : (d : ℕ) → In d stack.items ⊎ In d (c ∷ []) → Where w₁ c d
            off d (inl i) = inl i
            off d (inr (inl q)) = inr (inr q)
            off d (inr (inr i)) = absurd i

            place : (d : ℕ) → d < length st.colours → Where w nobody d → Where w₁ c d
            place d i (inl j) = off d (in_either d stack.items (c ∷ []) (rw e at j))
            place d i (inr (inl j)) = inr (inl j)
            place d i (inr (inr q)) = absurd (omega (arith, w.room.cells, same))

        module _ (w' : Walk) (p : Pushing w₁ (fields_of st.fields c) w') where
          opened : Midway w' c
          opened = pushes_midway (fields_of st.fields c) w₁ w' c taken_off named p
            where
              named : (d : ℕ) → In d (fields_of st.fields c) → InUse st d → Held st d
              named d i u = let n = named_by st.fields c d i in field c n.0 top-held n.1 n.2 u

          spread : Spread w' c
          spread f i u = pushes_on (fields_of st.fields c) w₁ w' p (field_of st.fields c f) (names st.fields c f i) (rw taken_off.cells u)

          -- the cell that was opened has spread
          full : Midway w' nobody
          full = record { cells = opened.cells; sound = opened.sound; on = opened.on; done = λ d q. place d (opened.done d q) }
            where
              place : (d : ℕ) → Where w' c d → Where w' nobody d
              place d (inl j) = inl j
              place d (inr (inl j)) = inr (inl j)
              place d (inr (inr e)) = inr (inl (rw e spread))

          sum : missing w' + waiting w' ≡ missing w + waiting w₁
          sum = pushes_sum (fields_of st.fields c) w₁ w' p

          pub taken-more : Working w' (o + 1)
          taken-more = record {
            midway = full;
            four = k.four;
            begun = λ d i u. pushes_keeps (fields_of st.fields c) w₁ w' p d (k.begun d i u);
            count = omega (arith, sum, one-less, k.count, same, ap length full.cells);
          }

          pub taken-less : missing w' + waiting w' < missing w + waiting w
          taken-less = omega (arith, sum, one-less)

  -- ---- the end: the marks are the held cells
  module _ (w : Walk) (o : ℕ) (k : Working w o) (b : w.stack.items ≡ []) where
    whole : (c : ℕ) → Held st c → On w c
    whole c (root i u) = k.begun c i u
    whole c (field d f h l e u) = rw e (spread (k.midway.done d (whole d h)) f l (rw e at u))
      where
        spread : Where w nobody d → Spread w d
        spread (inl j) = absurd (rw b at j)
        spread (inr (inl j)) = j
        spread (inr (inr e')) = let i = held_below d h in absurd (omega (arith, w.room.cells, same w o k))

    pub work-end : o + in_use (unreached st) ≡ in_use st.colours
    work-end =
        let l = w.room.marks in
        let j = w.room.cells in
        let n = k.count in
        let z = ap length b in
        let s = same w o k in
        let t : missing w ≡ unmarked w.marks (length st.colours) = ap (unmarked w.marks) s in
        let e =
        marks-count st.colours (unreached st) w.marks (omega arith)
        (λ c p. (held-exact st c).0 (k.midway.sound c p))
        (λ c u q. whole c ((held-exact st c).1 (u, q)))
        (λ c u. ((floating_exact st c).1 u).0)
        in
        omega arith

-- ---- the loop begins once the pages and the slots are pushed
module _ (rec : Record) (desk : List Row) (fields : List ℕ) (colours : Bor (List ℕ)) (w₀ w w' : Walk) (z : Sized rec.n fields colours.now) (f : Fresh colours.now w₀) (p : Pushing w₀ (range_with_len 0 rec.g) w) (q : Pushing w (slots desk) w') where
  abbrev st : Store
  st = parts rec desk fields colours.now

  bare : (c : ℕ) → On w₀ c → ⊥
  bare c o = none-on c (rw f.marks at o)

  begin : Midway st w₀ nobody
  begin = record { cells = f.colours; sound = λ c o. absurd (bare c o); on = λ c i. absurd (rw f.stack at i); done = λ c o. absurd (bare c o) }

  paged : (c : ℕ) → In c (range_with_len 0 rec.g) → InUse st c → Held st c
  paged c i u = root (in_left c (pages rec.g) (slots desk) (page_of rec.g c (omega (arith, from_range 0 rec.g c i)))) u

  slotted : (c : ℕ) → In c (slots desk) → InUse st c → Held st c
  slotted c i u = root (in_right c (pages rec.g) (slots desk) i) u

  midway₁ : Midway st w nobody
  midway₁ = pushes_midway st (range_with_len 0 rec.g) w₀ w nobody begin paged p

  midway₂ : Midway st w' nobody
  midway₂ = pushes_midway st (slots desk) w w' nobody midway₁ slotted q

  marked : (c : ℕ) → InUse st c → In c (pages rec.g) ⊎ In c (slots desk) → On w' c
  marked c u (inl i) = pushes_keeps (slots desk) w w' q c (pushes_on (range_with_len 0 rec.g) w₀ w p c (in_range 0 rec.g c (omega arith) (omega (arith, page-below rec.g c i))) (rw begin.cells u))
  marked c u (inr i) = pushes_on (slots desk) w w' q c i (rw midway₁.cells u)

  pub work_start : Working st w' 0
  work_start = record {
    midway = midway₂;
    four = (let a = z.bytes in let b = z.words in omega arith);
    begun = λ c i u. marked c u (in_either c (pages rec.g) (slots desk) i);
    count = omega (arith, pushes_sum (slots desk) w w' q, pushes_sum (range_with_len 0 rec.g) w₀ w p, unmarked-none w₀.marks (length w₀.colours.now) bare, ap length f.stack, ap length begin.cells, ap length midway₂.cells);
  }

pub ruleset walks = (fresh_room, work_start, work_few, work-end)
