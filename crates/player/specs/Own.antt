-- The game that the player's own store stands for.
use Rattle.std.specs.Prelude.{ℕ, ◌*◌, ◌≡◌, List, take, Option, Result, Ok, Err}
use Rattle.machine.specs.Choice.{pick}
use Rattle.machine.specs.Limits.{limits_ok}
use Rattle.machine.specs.Answer.{Said, said_by, said_by_census}
use Rattle.machine.specs.Store.{Store, parts, Outcome, outcome, start}
use Rattle.machine.specs.Machine.{write, collect}
use Rattle.machine.specs.Census.{census}
use Rattle.machine.specs.declared.Record.{Record}
use Rattle.machine.specs.declared.Row.{Row}
use Rattle.machine.specs.declared.Refusal.{Refusal}
use Rattle.machine.specs.declared.Refusal.TheVariants.{BadSize}
use Rattle.lines.specs.Output.{said_of}
use Rattle.lines.specs.declared.Line.{Line}
use Rattle.lines.specs.declared.Reply.{Reply}
use Rattle.player.specs.Game.{Game, step, line_step}
use Rattle.player.specs.declared.store.OwnStore.{OwnStore}

abbrev pub own : Record → List Row → List ℕ → List ℕ → OwnStore
own rec rows fields colours = record { rec = rec; rows = rows; fields = fields; colours = colours }

-- "Its own store is 16,384 words and 4,096 colour bytes, and it lends their first parts."
unfoldable pub game : OwnStore → Game
game own = record {
  started = limits_ok own.rec.n own.rec.g own.rec.m;
  store = parts own.rec (take own.rec.m own.rows) (take (own.rec.n * 4) own.fields) (take own.rec.n own.colours);
}

-- N and M, if N, g and M are within their limits
unfoldable pub within : ℕ → ℕ → ℕ → Result (ℕ × ℕ) Refusal
within n g m = pick (limits_ok n g m) (Ok (n, m)) (Err BadSize)

-- N and M of the store that a line is played on: a start's own, else the record's
unfoldable pub sizes : Record → Line → Result (ℕ × ℕ) Refusal
sizes rec (Line.Start n g m) = within n g m
sizes rec (Line.Write w call) = within rec.n rec.g rec.m
sizes rec Line.Collect = within rec.n rec.g rec.m
sizes rec Line.Census = within rec.n rec.g rec.m

-- what the call that a line says makes of a store, and what it says
abbrev said_with : {A : Type 0} → (A → Said) → Outcome A → Outcome Said
said_with say o = outcome (say o.answer) o.store

unfoldable pub called : Line → Store → Outcome Said
called (Line.Start n g m) st = said_with said_by (start n g m st)
called (Line.Write w call) st = said_with said_by (write w call st)
called Line.Collect st = said_with said_by (collect st)
called Line.Census st = said_with said_by_census (census st)

-- a line was played as the game says
pub record Plays (own : OwnStore) (line : Option Line) (reply : Result Reply Refusal) (own' : OwnStore) : Type 0 where
  pub plays : step (said_of reply) (game own') ≡ line_step (game own) line
