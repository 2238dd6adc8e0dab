-- What a row names: the numbers that its job carries. And how to tell jobs apart.
use Rattle.std.specs.Prelude.{ℕ, zero, suc}
use Rattle.moves.specs.Machine.{Made, taken, kept, whiten, Job, idle, answering, storing, creating, none}

-- The numbers that a job carries, by a position: a store has the cell, the new and the old value, a creation the new cell,
-- and the other jobs none.
abbrev pub job_name : Job → ℕ → ℕ
job_name idle k = none
job_name (answering i) k = none
job_name (storing p ph c f v o) zero = c
job_name (storing p ph c f v o) (suc zero) = v
job_name (storing p ph c f v o) (suc (suc k)) = o
job_name (creating m n i) k = n

-- to tell jobs apart: `omega (arith, ap job_tag e)`
abbrev pub job_tag : Job → ℕ
job_tag idle = 0
job_tag (answering i) = 1
job_tag (storing p ph c f v o) = 2
job_tag (creating m n i) = 3

-- the slot that an answer comes to next, the cell of a creation
abbrev pub job_at : Job → ℕ
job_at idle = 0
job_at (answering i) = i
job_at (storing p ph c f v o) = 0
job_at (creating m n i) = n

-- to tell apart how far two creations are
abbrev pub made_tag : Made → ℕ
made_tag taken = 0
made_tag kept = 1
made_tag whiten = 2

-- how far the creation is, as a number; 1, as for keep, where there is none
abbrev pub job_made : Job → ℕ
job_made idle = 1
job_made (answering i) = 1
job_made (storing p ph c f v o) = 1
job_made (creating m n i) = made_tag m
