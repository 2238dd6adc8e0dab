-- The four lent parts, what a call makes of them, and start.
use Rattle.std.specs.Prelude.{ℕ, ◌-◌, ◌*◌, List, [], ◌∷◌, ◌++◌, Bool, length, replicate, None, Err, Ok}
use Rattle.machine.specs.Choice.{refuse}
use Rattle.machine.specs.Limits.{none, sizes_ok}
use Rattle.machine.specs.declared.Record.{Record}
use Rattle.machine.specs.declared.Row.{Row}
use Rattle.machine.specs.Answer.{Answered}
use Rattle.machine.specs.declared.Answer.TheVariants.{Done}
use Rattle.machine.specs.declared.Refusal.{Refusal}
use Rattle.machine.specs.declared.Refusal.TheVariants.{BadSize}

pub record Store : Type 0 where
  pub rec : Record
  pub desk : List Row
  pub fields : List ℕ
  pub colours : List ℕ

abbrev pub parts : Record → List Row → List ℕ → List ℕ → Store
parts rec desk fields colours = record { rec = rec; desk = desk; fields = fields; colours = colours }

-- a call's outcome: its answer, and the lent parts after it
pub record Outcome (A : Type 0) : Type 0 where
  pub answer : A
  pub store : Store

abbrev pub outcome : {A : Type 0} → A → Store → Outcome A
outcome a st = record { answer = a; store = st }

-- "A refusal returns its number and nothing else changes."
abbrev pub refusing : Store → Refusal → Outcome Answered
refusing st k = outcome (Err k) st

-- these parts fit N, g and M as given (refusal 1)
unfoldable pub fits : ℕ → ℕ → ℕ → Store → Bool
fits n g m st = sizes_ok n g m (length st.desk) (length st.fields) (length st.colours)

-- the parts fit the record's own N, g and M
abbrev pub fits_record : Store → Bool
fits_record st = fits st.rec.n st.rec.g st.rec.m st

-- "rows idle with status 0 and empty slots"
abbrev pub fresh_row : Row
fresh_row = record { status = 0; slots = replicate 8 none; job = None }

-- "N, g and M as given, stage 0, hold none, other record numbers 0"
abbrev pub fresh_record : ℕ → ℕ → ℕ → Record
fresh_record n g m =
    record { n = n; g = g; m = m; stage = 0; place = 0; part = 0; hold = none; found = 0; count = 0 }

-- "Start fills everything: fields none, pages white, other cells free, rows .., N, g and M .."
unfoldable pub fresh : ℕ → ℕ → ℕ → Store
fresh n g m = record {
  rec = fresh_record n g m;
  desk = replicate m fresh_row;
  fields = replicate (n * 4) none;
  colours = replicate g 1 ++ replicate (n - g) 0;
}

-- "Start gives only 1."
unfoldable pub start : ℕ → ℕ → ℕ → Store → Outcome Answered
start n g m st = refuse (refusing st) ((fits n g m st, BadSize) ∷ []) (outcome (Ok Done) (fresh n g m))
