-- The machine of moves, its types and updates: the stage with the record's other numbers in it, and a store of functions. A
-- number that names no cell (none, 65,535) has the colour black and fields none, so no statement has a case for none.
-- Colours: 0 free, 1 white, 2 gray, 3 black. A dark cell is a gray or black one.
use Rattle.std.specs.Prelude.{◌≡◌, Bool, true, false, ℕ, zero, suc, ◌+◌, ◌<◌}
use Rattle.moves.specs.Base.{upd, upd2}

-- The stage with the place, part, hold and found of the record: rest is stage 0, ask1 and ask2 are stages 1 and 2 with a
-- handshake posted, roots is stage 3 at its place, scan is stage 4, sweep is stage 5 at its place.
pub data Stage : Type 0 where
  rest ask1 ask2 : Stage
  roots : ℕ → Stage
  scan : (place part hold found : ℕ) → Stage
  sweep : ℕ → Stage

-- A store's plan: write; read old, gray old, write; read old, gray old, gray new, write.
pub data Plan : Type 0 where
  bare trace full : Plan

-- the next turn of a store
pub data Phase : Type 0 where
  reading graying_old graying_new writing : Phase

-- how far a creation is: the cell is taken; the look has decided keep; it has decided white
pub data Made : Type 0 where
  taken kept whiten : Made

-- A row's job: answering has the next slot; storing has the cell, the field, the new value and the old one (none until it is
-- read); creating has the new cell and the slot that it goes to.
pub data Job : Type 0 where
  idle : Job
  answering : ℕ → Job
  storing : Plan → Phase → (cell fld new old : ℕ) → Job
  creating : Made → (n slot : ℕ) → Job

-- A writer's row of the desk. Only slots 0 to 7 are spoken of.
pub record Row : Type 0 where
  pub status : ℕ
  pub slots : ℕ → ℕ
  pub job : Job

-- The store: N cells, g pages, M writers, the colours, the fields (0 to 3 of each cell), the rows, the count.
pub record St : Type 0 where
  pub N : ℕ
  pub g : ℕ
  pub M : ℕ
  pub colour : ℕ → ℕ
  pub field : ℕ → ℕ → ℕ
  pub rows : ℕ → Row
  pub count : ℕ

-- the number in an empty slot or field
abbrev pub none : ℕ
none = 65535

-- the posted number
abbrev pub posted : Stage → ℕ
posted rest = 0
posted ask1 = 1
posted ask2 = 2
posted (roots p) = 0
posted (scan p k h f) = 0
posted (sweep p) = 0

-- tracing: stages 3 and 4
abbrev pub tracing : Stage → Bool
tracing rest = false
tracing ask1 = false
tracing ask2 = false
tracing (roots p) = true
tracing (scan p k h f) = true
tracing (sweep p) = false

-- the hand: N in stages 0 to 2, 0 while tracing, the place in stage 5
abbrev pub hand : ℕ → Stage → ℕ
hand n rest = n
hand n ask1 = n
hand n ask2 = n
hand n (roots p) = 0
hand n (scan p k h f) = 0
hand n (sweep p) = p

-- to gray a colour: white becomes gray, the others stay
abbrev pub shade : ℕ → ℕ
shade zero = 0
shade (suc zero) = 2
shade (suc (suc n)) = suc (suc n)

-- the colour of cell i
abbrev pub set_colour : St → ℕ → ℕ → St
set_colour s i c =
    record { N = s.N; g = s.g; M = s.M; colour = upd s.colour i c; field = s.field; rows = s.rows; count = s.count }

-- to gray a number; none is black, so it stays
abbrev pub gray : St → ℕ → St
gray s v = set_colour s v (shade (s.colour v))

-- field f of cell x
abbrev pub set_field : St → ℕ → ℕ → ℕ → St
set_field s x f v =
    record { N = s.N; g = s.g; M = s.M; colour = s.colour; field = upd2 s.field x f v; rows = s.rows; count = s.count }

-- the fields of cell n, all none
abbrev pub clear : St → ℕ → St
clear s n = record {
  N = s.N;
  g = s.g;
  M = s.M;
  colour = s.colour;
  field = upd s.field n (λ f. none);
  rows = s.rows;
  count = s.count;
}

-- the row of writer w
abbrev pub set_row : St → ℕ → Row → St
set_row s w r =
    record { N = s.N; g = s.g; M = s.M; colour = s.colour; field = s.field; rows = upd s.rows w r; count = s.count }

-- the count
abbrev pub set_count : St → ℕ → St
set_count s c = record { N = s.N; g = s.g; M = s.M; colour = s.colour; field = s.field; rows = s.rows; count = c }

-- one working turn more
abbrev pub tick : St → St
tick s = set_count s (s.count + 1)

-- a row with another job
abbrev pub with_job : Row → Job → Row
with_job r j = record { status = r.status; slots = r.slots; job = j }

-- a row with another number in slot k
abbrev pub with_slot : Row → ℕ → ℕ → Row
with_slot r k v = record { status = r.status; slots = upd r.slots k v; job = r.job }

-- the job of writer w
abbrev pub set_job : St → ℕ → Job → St
set_job s w j = set_row s w (with_job (s.rows w) j)

-- all statuses are n: what a handshake waits for
abbrev pub AllStatus : St → ℕ → Type 0
AllStatus s n = (w : ℕ) → w < s.M → (s.rows w).status ≡ n
