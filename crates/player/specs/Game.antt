-- What the player is, without its text: a store, once a start has succeeded, and what each line makes of it.
use Rattle.std.specs.Prelude.{Bool, true, false, Option, Some, None, Result, Ok, Err}
use Rattle.machine.specs.Choice.{pick}
use Rattle.machine.specs.Limits.{limits_ok}
use Rattle.machine.specs.Store.{Store, Outcome, fresh}
use Rattle.machine.specs.Answer.{Said, Answered, said_by, said_by_census}
use Rattle.machine.specs.Machine.{write, collect}
use Rattle.machine.specs.Census.{census}
use Rattle.machine.specs.declared.Answer.TheVariants.{Done}
use Rattle.machine.specs.declared.Counts.{Counts}
use Rattle.machine.specs.declared.Refusal.{Refusal}
use Rattle.machine.specs.declared.Refusal.TheVariants.{BadSize, Unreadable}
use Rattle.lines.specs.declared.Line.{Line}

pub record Game : Type 0 where
  pub started : Bool
  pub store : Store

-- before any start: of its store, whatever it is, nothing is seen (proofs/Before.antt)
abbrev pub unstarted : Game
unstarted = record { started = false; store = fresh 0 0 0 }

-- what a line gives: what is said, and the game after it
pub record Step : Type 0 where
  pub said : Said
  pub game : Game

abbrev pub step : Said → Game → Step
step s g = record { said = s; game = g }

abbrev pub playing : Store → Game
playing st = record { started = true; store = st }

-- nothing changes
abbrev pub refused : Refusal → Game → Step
refused k g = step (said_by (Err k)) g

abbrev pub called : Outcome Answered → Step
called o = step (said_by o.answer) (playing o.store)

abbrev pub counted : Outcome (Result Counts Refusal) → Step
counted o = step (said_by_census o.answer) (playing o.store)

-- "Calls before a start that succeeded are refused with 1"
abbrev pub once_started : Game → Step → Step
once_started g s = pick g.started s (refused BadSize g)

-- "a line of no such form, an empty or a longer one too, with 8, first of all"; "A refused start leaves the store that stood before it."
unfoldable pub line_step : Game → Option Line → Step
line_step g None = refused Unreadable g
line_step g (Some (Line.Start n p m)) = pick (limits_ok n p m) (step (said_by (Ok Done)) (playing (fresh n p m))) (refused BadSize g)
line_step g (Some (Line.Write w call)) = once_started g (called (write w call g.store))
line_step g (Some Line.Collect) = once_started g (called (collect g.store))
line_step g (Some Line.Census) = once_started g (counted (census g.store))
