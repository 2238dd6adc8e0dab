-- A move of either kind, the stage and the store that it leads to, and what is counted of it.
use Rattle.std.specs.Prelude.{ℕ, zero, suc, ◌+◌}
use Rattle.moves.specs.Machine.{Stage, rest, ask1, ask2, roots, scan, sweep, St}
use Rattle.moves.specs.Writing.{Writing, written}
use Rattle.moves.specs.Collecting.{Collecting, opening, asked1, asked2, root, rooted, skip, opened, again, scanned}
use Rattle.moves.specs.Collecting.{hold, gray-hold, done, swept, closing, next-stage, collected}

-- A move of the machine: one turn of a writer or one working turn of the collector. A refused call and a waiting turn
-- change nothing and are no moves.
pub data Move (s : St) (σ : Stage) : Type 0 where
  by-writer : Writing s σ → Move s σ
  by-collector : Collecting s σ → Move s σ

-- the stage after a move
abbrev pub stage' : {s : St} {σ : Stage} → Move s σ → Stage
stage' {σ = σ} (by-writer m) = σ
stage' (by-collector m) = next-stage m

-- the store after a move
abbrev pub after : {s : St} {σ : Stage} → Move s σ → St
after (by-writer m) = written m
after (by-collector m) = collected m

-- the working turns in a move: 1 for the collector's, 0 for a writer's
abbrev pub work : {s : St} {σ : Stage} → Move s σ → ℕ
work (by-writer m) = 0
work (by-collector m) = 1

-- the number of closings after a collector's move, n before it
abbrev pub closings : {s : St} {σ : Stage} → Collecting s σ → ℕ → ℕ
closings opening n = n
closings (asked1 a) n = n
closings (asked2 a) n = n
closings (root p l) n = n
closings (rooted a) n = n
closings (skip p f l n) i = i
closings (opened p f l e) n = n
closings again n = n
closings scanned n = n
closings (hold p k f l) n = n
closings (gray-hold p k h f l) n = n
closings (done p f l) n = n
closings (swept p l) n = n
closings closing n = suc n

-- the same for any move
abbrev pub close : {s : St} {σ : Stage} → Move s σ → ℕ → ℕ
close (by-writer m) n = n
close (by-collector m) n = closings m n

-- the count after a move, from the working turns in it, the stage before it and the count before it
abbrev pub counted : ℕ → Stage → ℕ → ℕ
counted zero σ c = c
counted (suc n) rest c = 1
counted (suc n) ask1 c = c + 1
counted (suc n) ask2 c = c + 1
counted (suc n) (roots p) c = c + 1
counted (suc n) (scan p k h f) c = c + 1
counted (suc n) (sweep p) c = c + 1
