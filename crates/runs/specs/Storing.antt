-- The job that a store starts with, as a job of moves.
use Rattle.std.specs.Prelude.{ℕ}
use Rattle.moves.specs.Machine as Abstract
use Rattle.moves.specs.Writing as Writing
use Rattle.machine.specs.Limits.{none}

-- the job that a store starts with, by the status and whether the stage traces
abbrev pub planned : ℕ → Abstract.Stage → (c f v : ℕ) → Abstract.Job
planned u σ c f v = Abstract.storing (Writing.plan_of u (Abstract.tracing σ)) (Writing.first_phase (Writing.plan_of u (Abstract.tracing σ))) c f v none
