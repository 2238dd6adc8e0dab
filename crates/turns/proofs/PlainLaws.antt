-- There and back: a row and a record are told whole by their numbers; and a record that is in range is told by its numbers as they are.
use Rattle.std.specs.Prelude.{◌≡◌, ℕ, zero, suc, ◌+◌, ◌<◌, ◌≤◌, Bool, true, false, leb, ◌⊎◌, List, [], ◌∷◌, length, take, drop, ◌==◌, ◌≢◌, nat_le, nat_lt, slice_index, Some, None, Option}
use Rattle.std.specs.Prelude.{refl}
use Rattle.std.proofs.Common.{sym, ap, ◌∙◌, arith, drop_of_length-le, drop-cons}
use Rattle.std.proofs.Math.Logic.{inl, inr}
use Rattle.std.proofs.Math.Decide.{dec_lt}
use borrow.Author.Tests.{lt-ltb, le-ltb, ltb-true, leb-true, eqb-true}
use Rattle.machine.specs.Choice.{pick, among, every}
use Rattle.machine.specs.ChoiceLaws.{hold}
use Rattle.machine.specs.Limits.{none, limits_ok}
use Rattle.machine.specs.Range.{place_ok, part_ok, value_ok, hold_ok, found_ok, record_ok}
use Rattle.machine.specs.declared.Record.{Record}
use Rattle.machine.specs.declared.Row.{Row}
use Rattle.machine.specs.declared.Plan.{Plan}
use Rattle.machine.specs.declared.Plan.TheVariants.{FullRead, FullOld, FullNew, FullWrite, TracedRead, TracedOld, TracedWrite, BareWrite}
use Rattle.machine.specs.declared.Look.{Look}
use Rattle.machine.specs.declared.Look.TheVariants.{Ahead, Keep, White}
use Rattle.machine.specs.declared.Work.{Work}
use Rattle.machine.specs.declared.Work.TheVariants.{Answering, Storing, Creating}
use Rattle.turns.specs.Fits.{WorkFits, JobFits, RowFits, RecordFits}
use Rattle.turns.specs.Plain.{byte_of, word_of, hold_of, record_of, numbers_of, Standing, plan_of, look_of, storing_of, creating_of, job_of, plan_number, look_number, work_task, task_of, row_of, words_of}

-- ---- a number that fits
byte_back : (x : ℕ) → x < 256 → byte_of x ≡ x
unfolding byte_of
byte_back x h = rw (lt-ltb x 256 h)

word_back : (x : ℕ) → x < 65536 → word_of x ≡ x
unfolding word_of
word_back x h = rw (lt-ltb x 65536 h)

hold_back : (x : ℕ) → x < 65536 → hold_of x ≡ x
unfolding hold_of
hold_back x h = rw (lt-ltb x 65536 h)

-- ---- a list is its numbers, one after the other
from : ℕ → ℕ → List ℕ → List ℕ
from zero i l = []
from (suc n) i l = slice_index l i ∷ from n (suc i) l

from_all : (n i : ℕ) (l : List ℕ) → i + n ≡ length l → from n i l ≡ drop i l
unfolding from
from_all zero i l e = sym (drop_of_length-le l {i = i} (omega arith))
from_all (suc n) i l e = ap (λ (r : List ℕ). slice_index l i ∷ r) (from_all n (suc i) l (omega arith)) ∙ sym (drop-cons l i 0 (omega arith))

-- ---- a row there and back
plan_back : (p : Plan) → (nat_lt (plan_number p) 8 ≡ true) × (plan_of (plan_number p) ≡ p)
unfolding plan_number plan_of
plan_back FullRead = (refl, refl)
plan_back FullOld = (refl, refl)
plan_back FullNew = (refl, refl)
plan_back FullWrite = (refl, refl)
plan_back TracedRead = (refl, refl)
plan_back TracedOld = (refl, refl)
plan_back TracedWrite = (refl, refl)
plan_back BareWrite = (refl, refl)

look_back : (l : Look) → (nat_lt (look_number l) 3 ≡ true) × (look_of (look_number l) ≡ l)
unfolding look_number look_of
look_back Ahead = (refl, refl)
look_back Keep = (refl, refl)
look_back White = (refl, refl)

work_back : (w : Work) → WorkFits w → job_of (work_task w) ≡ Some w
unfolding work_task job_of storing_of creating_of
work_back (Answering k) h = rw (byte_back k h)
work_back (Storing s p) h = let k = plan_back p in rw (k.0, k.1, byte_back s.field h) refl
work_back (Creating m) h = let k = look_back m.look in rw (k.0, k.1, byte_back m.slot h) refl

job_back : (j : Option Work) → JobFits j → job_of (task_of j) ≡ j
unfolding task_of job_of
job_back None h = refl
job_back (Some w) h = work_back w h

pub row_back : (row : Row) → RowFits row → row_of (words_of row) ≡ row
unfolding row_of words_of from
row_back row f =
    λ i. record { status = byte_back row.status f.status i; slots = from_all 8 0 row.slots (sym f.slots) i; job = job_back row.job f.job i }

-- ---- a record there and back
pub record_back : (rec : Record) → RecordFits rec → record_of (numbers_of rec) ≡ rec
unfolding record_of numbers_of
record_back rec f =
    λ i. record {
      n = word_back rec.n f.n i;
      g = word_back rec.g f.g i;
      m = word_back rec.m f.m i;
      stage = byte_back rec.stage f.stage i;
      place = word_back rec.place f.place i;
      part = byte_back rec.part f.part i;
      hold = hold_back rec.hold f.hold i;
      found = byte_back rec.found f.found i;
      count = rec.count;
    }

-- ---- numbers that pass: what did not fit is out of range, so the record of a store in range is told by its numbers as they are
pub byte_exact : (x : ℕ) → byte_of x < 255 → byte_of x ≡ x
unfolding byte_of
byte_exact x h = go (dec_lt x 256)
  where
    go : Dec (x < 256) → byte_of x ≡ x
    go (yes l) = rw (lt-ltb x 256 l)
    go (no l) = absurd (let k = rw (le-ltb x 256 (omega arith), byte_of) at h in omega arith)

word-exact : (x : ℕ) → word_of x < 65535 → word_of x ≡ x
unfolding word_of
word-exact x h = go (dec_lt x 65536)
  where
    go : Dec (x < 65536) → word_of x ≡ x
    go (yes l) = rw (lt-ltb x 65536 l)
    go (no l) = absurd (let k = rw (le-ltb x 65536 (omega arith), word_of) at h in omega arith)

hold-exact : (x : ℕ) → (hold_of x ≢ 65534) → hold_of x ≡ x
unfolding hold_of
hold-exact x h = go (dec_lt x 65536)
  where
    go : Dec (x < 65536) → hold_of x ≡ x
    go (yes l) = rw (lt-ltb x 65536 l)
    go (no l) = absurd (h (rw (le-ltb x 65536 (omega arith))))

-- one of a test's two arms holds
by_test : (b x y : Bool) → pick b x y ≡ true → ((b ≡ true) × (x ≡ true)) ⊎ (y ≡ true)
by_test true x y e = inl (refl, e)
by_test false x y e = inr e

-- the numbers of a record in range within limits are small; the count is not asked for
module _ (rec : Record) where
  pub record Small : Type 0 where
    pub n : rec.n ≤ 4096
    pub g : rec.g ≤ 16
    pub m : rec.m ≤ 8
    pub stage : rec.stage ≤ 5
    pub place : rec.place ≤ 4096
    pub part : rec.part ≤ 9
    pub hold : (rec.hold ≡ none) ⊎ (rec.hold < 4096)
    pub found : rec.found ≤ 1

  module _ (limits : limits_ok rec.n rec.g rec.m ≡ true) (stages : leb rec.stage 5 ≡ true) (places : place_ok rec ≡ true) (parts : part_ok rec ≡ true) (holds : hold_ok rec ≡ true) (founds : found_ok rec ≡ true) where
    n-small : rec.n ≤ 4096
    unfolding limits_ok
    n-small = leb-true _ _ (hold _ limits).1.0

    place-small : rec.place ≤ 4096
    unfolding limits_ok place_ok
    place-small = go (by_test _ _ _ places)
      where
        late : (((rec.stage == 3) ≡ true) × (nat_le rec.place rec.g ≡ true)) ⊎ (nat_le rec.place rec.n ≡ true) → rec.place ≤ 4096
        late (inl h) = omega (arith, leb-true rec.place rec.g h.1, leb-true rec.g 16 (hold _ limits).1.1.1.0)
        late (inr h) = omega (arith, leb-true rec.place rec.n h, n-small)

        go : ((nat_lt rec.stage 3 ≡ true) × ((rec.place == 0) ≡ true)) ⊎ (pick (rec.stage == 3) (nat_le rec.place rec.g) (nat_le rec.place rec.n) ≡ true) → rec.place ≤ 4096
        go (inl h) = omega (arith, eqb-true rec.place 0 h.1)
        go (inr h) = late (by_test _ _ _ h)

    part_small : rec.part ≤ 9
    unfolding part_ok
    part_small = go (by_test _ _ _ parts)
      where
        go : (((rec.part == 0) ≡ true) × (true ≡ true)) ⊎ (every ((rec.stage == 4) ∷ nat_lt rec.place rec.n ∷ nat_le rec.part 9 ∷ []) ≡ true) → rec.part ≤ 9
        go (inl h) = omega (arith, eqb-true rec.part 0 h.0)
        go (inr h) = leb-true _ _ (hold _ h).1.1.0

    hold-small : (rec.hold ≡ none) ⊎ (rec.hold < 4096)
    unfolding hold_ok value_ok
    hold-small = go (by_test _ _ _ holds)
      where
        value : (((rec.hold == none) ≡ true) × (true ≡ true)) ⊎ (nat_lt rec.hold rec.n ≡ true) → (rec.hold ≡ none) ⊎ (rec.hold < 4096)
        value (inl h) = inl (eqb-true rec.hold none h.0)
        value (inr h) = inr (omega (arith, ltb-true rec.hold rec.n h, n-small))

        go : ((among (2 ∷ 4 ∷ 6 ∷ 8 ∷ []) rec.part ≡ true) × (pick (rec.hold == none) true (nat_lt rec.hold rec.n) ≡ true)) ⊎ ((rec.hold == none) ≡ true) → (rec.hold ≡ none) ⊎ (rec.hold < 4096)
        go (inl h) = value (by_test _ _ _ h.1)
        go (inr h) = inl (eqb-true rec.hold none h)

    found-small : rec.found ≤ 1
    unfolding found_ok
    found-small = go (by_test _ _ _ founds)
      where
        go : (((rec.found == 0) ≡ true) × (true ≡ true)) ⊎ (every ((rec.found == 1) ∷ (rec.stage == 4) ∷ []) ≡ true) → rec.found ≤ 1
        go (inl h) = omega (arith, eqb-true rec.found 0 h.0)
        go (inr h) = omega (arith, eqb-true rec.found 1 (hold _ h).0)

    pub small : Small
    unfolding limits_ok
    small = record {
      n = n-small;
      g = leb-true _ _ (hold _ limits).1.1.1.0;
      m = leb-true _ _ (hold _ limits).1.1.1.1.1.1.0;
      stage = leb-true _ _ stages;
      place = place-small;
      part = part_small;
      hold = hold-small;
      found = found-small;
    }

pub record_exact : (numbers : List ℕ) → length numbers ≡ 9 → limits_ok (record_of numbers).n (record_of numbers).g (record_of numbers).m ≡ true → record_ok (record_of numbers) ≡ true
    → numbers_of (record_of numbers) ≡ numbers
unfolding record_of numbers_of record_ok from
record_exact numbers e limits range =
    (λ i. word-exact (at 0) (omega (arith, s.n)) i ∷ word-exact (at 1) (omega (arith, s.g)) i ∷ word-exact (at 2) (omega (arith, s.m)) i ∷ byte_exact (at 3) (omega (arith, s.stage)) i
    ∷ word-exact (at 4) (omega (arith, s.place)) i ∷ byte_exact (at 5) (omega (arith, s.part)) i ∷ hold-exact (at 6) (not-held s.hold) i ∷ byte_exact (at 7) (omega (arith, s.found)) i ∷ at 8 ∷ [])
    ∙ from_all 9 0 numbers (sym e)
  where
    at : ℕ → ℕ
    at k = slice_index numbers k

    s : Small (record_of numbers)
    s = let r = hold _ range in small (record_of numbers) limits r.0 r.1.0 r.1.1.0 r.1.1.1.0 r.1.1.1.1.0

    not-held : (hold_of (at 6) ≡ none) ⊎ (hold_of (at 6) < 4096) → hold_of (at 6) ≢ 65534
    not-held (inl h) q = omega arith
    not-held (inr h) q = omega arith

-- n, g and m in limits are told by their numbers as they are
pub sizes-exact : (numbers : List ℕ) (rec : Record) → length numbers ≡ 9 → limits_ok (record_of numbers).n (record_of numbers).g (record_of numbers).m ≡ true
    → rec.n ≡ (record_of numbers).n → rec.g ≡ (record_of numbers).g → rec.m ≡ (record_of numbers).m → Standing numbers rec
unfolding record_of from limits_ok
sizes-exact numbers rec e limits n g m =
    let a : word_of (slice_index numbers 0) ≤ 4096 = leb-true _ _ (hold _ limits).1.0 in
    let b : word_of (slice_index numbers 1) ≤ 16 = leb-true _ _ (hold _ limits).1.1.1.0 in
    let c : word_of (slice_index numbers 2) ≤ 8 = leb-true _ _ (hold _ limits).1.1.1.1.1.1.0 in
    record {
      nine = e;
      sizes = sym (ap (take 3) (from_all 9 0 numbers (sym e))) ∙ (λ i. exact 0 n (omega arith) i ∷ exact 1 g (omega arith) i ∷ exact 2 m (omega arith) i ∷ []);
    }
  where
    exact : (k : ℕ) {x : ℕ} → x ≡ word_of (slice_index numbers k) → word_of (slice_index numbers k) < 65535 → slice_index numbers k ≡ x
    exact k q l = sym (q ∙ word-exact (slice_index numbers k) l)
