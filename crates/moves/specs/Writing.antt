-- The writers' moves: what each turn of a writer asks for, and the store that it leads to.
use Rattle.std.specs.Prelude.{◌≡◌, Bool, true, false, ◌≢◌, ℕ, zero, suc, ◌+◌, ◌≤◌, ◌<◌, ltb}
use Rattle.moves.specs.Base.{upd}
use Rattle.moves.specs.Machine.{Stage, Plan, bare, trace, full, Phase, reading, graying_old, graying_new, writing, Made}
use Rattle.moves.specs.Machine.{taken, kept, whiten, idle, answering, storing, creating, Row, St, none, posted, tracing}
use Rattle.moves.specs.Machine.{hand, set_colour, gray, set_field, clear, set_row, with_slot, set_job}

-- A number that one turn of an idle writer may put into a slot: a page, a copy of a slot, none (drop), a field of the cell in
-- a slot (read).
pub data Known (s : St) (r : Row) : ℕ → Type 0 where
  page : {p : ℕ} → p < s.g → Known s r p
  copy : (k : ℕ) → k < 8 → Known s r (r.slots k)
  drop : Known s r none
  read : (k f : ℕ) → k < 8 → f < 4 → Known s r (s.field (r.slots k) f)

-- a store's plan, by the writer's status and whether the stage is tracing
abbrev pub plan_of : ℕ → Bool → Plan
plan_of zero true = trace
plan_of zero false = bare
plan_of (suc n) b = full

-- the turn after the first one
abbrev pub first_phase : Plan → Phase
first_phase bare = writing
first_phase trace = reading
first_phase full = reading

-- the turn after the old value is grayed
abbrev pub after_old : Plan → Phase
after_old bare = writing
after_old trace = writing
after_old full = graying_new

-- what the look decides at status 0, by whether the cell is below the hand
abbrev pub decided : Bool → Made
decided true = whiten
decided false = kept

-- what the look decides: white if the status is not 0 or the cell is below the hand, else keep
abbrev pub looked : ℕ → Bool → Made
looked zero b = decided b
looked (suc n) b = whiten

-- A writer's moves. The arguments of a move are its guards. They are weaker than a call's: any free cell may be taken, and
-- nothing is said of an empty slot.
pub data Writing (s : St) (σ : Stage) : Type 0 where
  -- page, copy, drop, read: one number into slot k
  load : (w k v : ℕ) → w < s.M → (s.rows w).job ≡ idle → Known s (s.rows w) v → Writing s σ
  -- an answer to posted 1 or 2
  answer_post : (w : ℕ) → w < s.M → (s.rows w).job ≡ idle → 1 ≤ posted σ → Writing s σ
  -- an answer to posted 0: its start, the graying of slots 0 to 7, its last turn
  answer-start : (w : ℕ) → w < s.M → (s.rows w).job ≡ idle → posted σ ≡ 0 → (s.rows w).status ≢ 0 → Writing s σ
  answer-gray : (w k : ℕ) → w < s.M → (s.rows w).job ≡ answering k → k < 8 → Writing s σ
  answer-end : (w : ℕ) → w < s.M → (s.rows w).job ≡ answering 8 → Writing s σ
  -- a store of slot q into field f of the cell in slot r: its first turn, then old read, old grayed, new grayed, field
  -- written
  store-start : (w r f q : ℕ) → w < s.M → (s.rows w).job ≡ idle → (f < 4) × (r < 8) × (q < 8) → Writing s σ
  store-read : (w : ℕ) (p : Plan) (c f v o : ℕ) → w < s.M → (s.rows w).job ≡ storing p reading c f v o → f < 4 → Writing s σ
  store-old : (w : ℕ) (p : Plan) (c f v o : ℕ) → w < s.M → (s.rows w).job ≡ storing p graying_old c f v o → Writing s σ
  store-new : (w : ℕ) (p : Plan) (c f v o : ℕ) → w < s.M → (s.rows w).job ≡ storing p graying_new c f v o → Writing s σ
  store-write : (w : ℕ) (p : Plan) (c f v o : ℕ) → w < s.M → (s.rows w).job ≡ storing p writing c f v o → (f < 4) × (c < s.N)
      → Writing s σ
  -- a creation into slot k: take, look, and finish, with the cell kept or made white
  take : (w k n : ℕ) → w < s.M → (s.rows w).job ≡ idle → n < s.N → s.colour n ≡ 0 → Writing s σ
  look : (w k n : ℕ) → w < s.M → (s.rows w).job ≡ creating taken n k → Writing s σ
  keep : (w k n : ℕ) → w < s.M → (s.rows w).job ≡ creating kept n k → Writing s σ
  white : (w k n : ℕ) → w < s.M → (s.rows w).job ≡ creating whiten n k → Writing s σ

-- the store after a writer's move; the stage stays
abbrev pub written : {s : St} {σ : Stage} → Writing s σ → St
written {s} (load w k v a b c) = set_row s w (with_slot (s.rows w) k v)
written {s} {σ} (answer_post w a b c) = set_row s w (record { status = posted σ; slots = (s.rows w).slots; job = idle })
written {s} (answer-start w a b c d) = set_job s w (answering 0)
written {s} (answer-gray w k a b c) = set_job (gray s ((s.rows w).slots k)) w (answering (k + 1))
written {s} (answer-end w a b) = set_row s w (record { status = 0; slots = (s.rows w).slots; job = idle })
written {s} {σ} (store-start w r f q a b c) =
    set_job s w (storing (plan_of (s.rows w).status (tracing σ)) (first_phase (plan_of (s.rows w).status (tracing σ)))
    ((s.rows w).slots r) f ((s.rows w).slots q) none)
written {s} (store-read w p c f v o a b d) = set_job s w (storing p graying_old c f v (s.field c f))
written {s} (store-old w p c f v o a b) = set_job (gray s o) w (storing p (after_old p) c f v o)
written {s} (store-new w p c f v o a b) = set_job (gray s v) w (storing p writing c f v o)
written {s} (store-write w p c f v o a b d) = set_job (set_field s c f v) w idle
written {s} (take w k n a b c d) = set_job (clear (set_colour s n 3) n) w (creating taken n k)
written {s} {σ} (look w k n a b) = set_job s w (creating (looked (s.rows w).status (ltb n (hand s.N σ))) n k)
written {s} (keep w k n a b) =
    set_row s w (record { status = (s.rows w).status; slots = upd (s.rows w).slots k n; job = idle })
written {s} (white w k n a b) =
    set_row (set_colour s n 1) w (record { status = (s.rows w).status; slots = upd (s.rows w).slots k n; job = idle })
