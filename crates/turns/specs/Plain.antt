-- Plain numbers and the machine's types, each made of the other: the record is nine numbers, a row 16 words, an answer a number. A number
-- that does not fit its type becomes one that is out of range, whatever the others are.
use Rattle.std.specs.Prelude.{◌≡◌, ℕ, zero, suc, ◌+◌, ◌*◌, ◌/◌, Bool, true, false, List, [], ◌∷◌, ◌++◌, length, take, drop, ◌==◌, nat_lt, slice_index, Option, Some, None, Result, Ok, Err}
use Rattle.machine.specs.Choice.{pick}
use Rattle.machine.specs.Parts.{slot_of}
use Rattle.machine.specs.declared.Record.{Record}
use Rattle.machine.specs.declared.Row.{Row}
use Rattle.machine.specs.declared.Plan.{Plan}
use Rattle.machine.specs.declared.Plan.TheVariants.{FullRead, FullOld, FullNew, FullWrite, TracedRead, TracedOld, TracedWrite, BareWrite}
use Rattle.machine.specs.declared.Look.{Look}
use Rattle.machine.specs.declared.Look.TheVariants.{Ahead, Keep, White}
use Rattle.machine.specs.declared.Work.{Work}
use Rattle.machine.specs.declared.Work.TheVariants.{Answering, Storing, Creating}
use Rattle.machine.specs.Answer.{Answered, number}
use Rattle.machine.specs.declared.Answer.TheVariants.{Done, More, Worked, Waited}
use Rattle.machine.specs.declared.Refusal.{Refusal}
use Rattle.turns.specs.declared.plain.Task.{Task}

-- ---- numbers
-- a number as a byte: what does not fit becomes the largest
unfoldable pub byte_of : ℕ → ℕ
byte_of x = pick (nat_lt x 256) x 255

-- the same as a word
unfoldable pub word_of : ℕ → ℕ
word_of x = pick (nat_lt x 65536) x 65535

-- the hold, where the largest word says none: what does not fit becomes the one below it
unfoldable pub hold_of : ℕ → ℕ
hold_of x = pick (nat_lt x 65536) x 65534

-- ---- the record
-- the record of nine numbers
unfoldable pub record_of : List ℕ → Record
record_of numbers = record {
  n = word_of (slice_index numbers 0);
  g = word_of (slice_index numbers 1);
  m = word_of (slice_index numbers 2);
  stage = byte_of (slice_index numbers 3);
  place = word_of (slice_index numbers 4);
  part = byte_of (slice_index numbers 5);
  hold = hold_of (slice_index numbers 6);
  found = byte_of (slice_index numbers 7);
  count = slice_index numbers 8;
}

-- a record's numbers
unfoldable pub numbers_of : Record → List ℕ
numbers_of rec =
    rec.n ∷ rec.g ∷ rec.m ∷ rec.stage ∷ rec.place ∷ rec.part ∷ rec.hold ∷ rec.found ∷ rec.count ∷ []

-- a turn writes the last six: n, g and m, the first three, stand as they are
pub record Standing (numbers : List ℕ) (rec : Record) : Type 0 where
  pub nine : length numbers ≡ 9
  pub sizes : take 3 numbers ≡ rec.n ∷ rec.g ∷ rec.m ∷ []

-- ---- a job
-- its six words: kind, step, cell, at, fresh, old
abbrev pub task_with : ℕ → ℕ → ℕ → ℕ → ℕ → ℕ → Task
task_with kind step cell at fresh old =
    record { kind = kind; step = step; cell = cell; at = at; fresh = fresh; old = old }

-- they stand in this order, and a spare word after them
abbrev pub task_words : Task → List ℕ
task_words t = t.kind ∷ t.step ∷ t.cell ∷ t.at ∷ t.fresh ∷ t.old ∷ 0 ∷ []

-- a store's plan, by its number
unfoldable pub plan_of : ℕ → Plan
plan_of step =
    pick (step == 0) FullRead
    (pick (step == 1) FullOld
    (pick (step == 2) FullNew
    (pick (step == 3) FullWrite
    (pick (step == 4) TracedRead
    (pick (step == 5) TracedOld
    (pick (step == 6) TracedWrite BareWrite))))))

-- what a creation's look decided, by its number
unfoldable pub look_of : ℕ → Look
look_of step = pick (step == 0) Ahead (pick (step == 1) Keep White)

-- a job that is out of range: the numbers name none
abbrev pub outside : Option Work
outside = Some (Answering 255)

-- storing: eight plans
unfoldable pub storing_of : Task → Option Work
storing_of t =
    pick (nat_lt t.step 8)
    (Some (Storing (record { cell = t.cell; field = byte_of t.at; new = t.fresh; old = t.old }) (plan_of t.step)))
    outside

-- creating: a look ahead, or what it decided
unfoldable pub creating_of : Task → Option Work
creating_of t =
    pick (nat_lt t.step 3)
    (Some (Creating (record { slot = byte_of t.at; cell = t.cell; look = look_of t.step })))
    outside

-- the job of six words: kind 0 idle, 1 answering, 2 storing, 3 creating
unfoldable pub job_of : Task → Option Work
job_of t =
    pick (t.kind == 0) None
    (pick (t.kind == 1) (Some (Answering (byte_of t.step)))
    (pick (t.kind == 2) (storing_of t)
    (pick (t.kind == 3) (creating_of t) outside)))

-- a plan's number
unfoldable pub plan_number : Plan → ℕ
plan_number FullRead = 0
plan_number FullOld = 1
plan_number FullNew = 2
plan_number FullWrite = 3
plan_number TracedRead = 4
plan_number TracedOld = 5
plan_number TracedWrite = 6
plan_number BareWrite = 7

-- a look's number
unfoldable pub look_number : Look → ℕ
look_number Ahead = 0
look_number Keep = 1
look_number White = 2

-- a work's six words, 0 where it has no use for a word
unfoldable pub work_task : Work → Task
work_task (Answering k) = task_with 1 k 0 0 0 0
work_task (Storing s p) = task_with 2 (plan_number p) s.cell s.field s.new s.old
work_task (Creating m) = task_with 3 (look_number m.look) m.cell m.slot 0 0

-- a job's six words
unfoldable pub task_of : Option Work → Task
task_of None = task_with 0 0 0 0 0 0
task_of (Some w) = work_task w

-- ---- a row
-- the row in the first 16 words: status, eight slots, the job's six; the last is not read
unfoldable pub row_of : List ℕ → Row
row_of words = record {
  status = byte_of (slice_index words 0);
  slots =
      slice_index words 1 ∷ slice_index words 2 ∷ slice_index words 3 ∷ slice_index words 4 ∷ slice_index words 5 ∷ slice_index words 6 ∷ slice_index words 7 ∷ slice_index words 8 ∷ [];
  job = job_of (task_with (slice_index words 9) (slice_index words 10) (slice_index words 11) (slice_index words 12) (slice_index words 13) (slice_index words 14));
}

-- a row's words, where its job's are t
abbrev pub words_with : Row → Task → List ℕ
words_with row t =
    row.status ∷ slot_of row 0 ∷ slot_of row 1 ∷ slot_of row 2 ∷ slot_of row 3 ∷ slot_of row 4 ∷ slot_of row 5 ∷ slot_of row 6 ∷ slot_of row 7
    ∷ task_words t

-- a row's 16 words
unfoldable pub words_of : Row → List ℕ
words_of row = words_with row (task_of row.job)

-- ---- the desk
-- the first k rows of 16 words
unfoldable pub rows_of : ℕ → List ℕ → List Row
rows_of zero words = []
rows_of (suc k) words = row_of words ∷ rows_of k (drop 16 words)

-- the words, cut in rows of 16
unfoldable pub desk_of : List ℕ → List Row
desk_of words = rows_of (length words / 16) words

-- the words of rows, one after the other
unfoldable pub row_words : List Row → List ℕ
row_words [] = []
row_words (row ∷ rows) = words_of row ++ row_words rows

-- the 16 words of row w replaced, where there is a row w; all other words as before
unfoldable pub with_row : List ℕ → ℕ → Row → List ℕ
with_row words w row =
    pick (nat_lt w (length words / 16)) (take (w * 16) words ++ words_of row ++ drop (w * 16 + 16) words) words

-- ---- an answer
-- its number: a refusal's own, below 100, or one from 100 on
unfoldable pub answer_number : Answered → ℕ
answer_number (Ok Done) = 100
answer_number (Ok More) = 101
answer_number (Ok Worked) = 102
answer_number (Ok Waited) = 103
answer_number (Err k) = number k

-- whether it is a refusal
unfoldable pub is_refused : {A : Type 0} → Result A Refusal → Bool
is_refused (Ok a) = false
is_refused (Err k) = true
