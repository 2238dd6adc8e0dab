-- A run from a fresh store stays in range, so no turn of it is refused with 1 or 2.
use Rattle.std.specs.Prelude.{ℕ, ◌-◌, ◌+◌, ◌*◌, ◌≤◌, ◌<◌, ◌≡◌, refl, true, ◌≢◌, length, get_or, replicate, Err}
use Rattle.std.proofs.Common.{◌∙◌, ap, mul-le-mul_right, arith, length-append}
use mathlib.Core.List.{List, [], ◌∷◌, ◌++◌}
use Rattle.std.proofs.Math.Decide.{dec_lt}
use Rattle.std.proofs.lemmas.List.{length-replicate}
use borrow.Author.Tests.{leb-true, eq-eqb}
use Rattle.moves.specs.Run.{IsStart}
use Rattle.machine.specs.Choice.{all, every}
use Rattle.machine.specs.ChoiceLaws.{Hold, hold, held}
use Rattle.machine.specs.Limits.{none, limits_ok, lengths_ok, sizes_ok}
use Rattle.machine.specs.Store.{Store, fresh_row, fits, fits_record, fresh}
use Rattle.machine.specs.Range.{place_ok, part_ok, value_ok, hold_ok, found_ok, status_ok, colour_ok, job_ok, row_ok}
use Rattle.machine.specs.Machine.{Turn, writer, collector, turn}
use Rattle.machine.specs.Run.{run, C}
use Rattle.runs.specs.Abs.{abs, Eight}
use Rattle.runs.specs.Course.{Good}
use Rattle.runs.proofs.Course.{turn-moves, same-each, start_is, good_turn, good-fresh, good}
use Rattle.runs.proofs.Bounded.{bounded}
use Rattle.runs.specs.Range.{numbers_ok, InRange, Fine}
use Rattle.runs.proofs.Range.{mild-not}
use Rattle.runs.proofs.RangeWriter.{write_fine}
use Rattle.runs.proofs.RangeCollector.{collect_fine}
use Rattle.machine.specs.declared.Refusal.TheVariants.{BadSize, BadNumber}

-- any turn on a store in range
turn_fine : (st : Store) → Eight st.desk → InRange st → st.rec.count < 4294967295 → (t : Turn) → Fine (turn t st)
unfolding turn
turn_fine st E R b (writer w call) = write_fine st E R b w call
turn_fine st E R b collector = collect_fine st R b

-- ---- start
-- a fresh store is in range: its rows, its record, its lengths, its colours, all of it
fresh-row : (n : ℕ) → row_ok n fresh_row ≡ true
unfolding row_ok status_ok job_ok value_ok all every
fresh-row n = refl

fresh-numbers : (n g m : ℕ) → Hold (numbers_ok (fresh n g m).rec)
unfolding fresh place_ok part_ok hold_ok found_ok
fresh-numbers n g m = (refl, (refl, (refl, (refl, (refl, tt)))))

fresh-sizes : (n g m : ℕ) → g ≤ n → limits_ok n g m ≡ true → fits_record (fresh n g m) ≡ true
unfolding fresh fits sizes_ok lengths_ok
fresh-sizes n g m b e = held _ (e, (held _ (eq-eqb _ _ (length-replicate (n * 4) none), (eq-eqb _ _ colours, (eq-eqb _ _ (length-replicate m fresh_row), tt))), tt))
  where
    colours : length {A = ℕ} (replicate g 1 ++ replicate (n - g) 0) ≡ n
    colours = rw (length-append, length-replicate, length-replicate) (omega arith)

fresh-colours : (n g m : ℕ) → IsStart (abs (fresh n g m)) → (i : ℕ) → colour_ok (get_or (fresh n g m).colours i 3) ≡ true
unfolding fresh colour_ok
fresh-colours n g m S i = go (dec_lt i g) (dec_lt i n)
  where
    go : Dec (i < g) → Dec (i < n) → colour_ok (get_or (fresh n g m).colours i 3) ≡ true
    go (yes l) _ = ap colour_ok (S.whites i l)
    go (no l) (yes h) = ap colour_ok (S.frees i (omega arith) h)
    go (no l) (no h) = ap colour_ok (S.rest-black i (omega arith))

fresh-range : (n g m : ℕ) → limits_ok n g m ≡ true → g ≤ n → IsStart (abs (fresh n g m)) → InRange (fresh n g m)
unfolding fresh value_ok
fresh-range n g m e b S = record {
  sizes = fresh-sizes n g m b e;
  numbers = fresh-numbers n g m;
  rows = λ w. ap (row_ok n) (same-each m w fresh_row) ∙ fresh-row n;
  fields = λ i. ap (value_ok n) (same-each (n * 4) i none);
  colours = fresh-colours n g m S;
}

-- ---- runs
-- C is at most 16,826,390: the count stays far below its limit
small : (n g c : ℕ) → n ≤ 4096 → g ≤ n → c ≤ C n g → c < 4294967295
small n g c b d h = let l : n + 1 ≤ 4097 = omega arith in omega (arith, mul-le-mul_right (n + 1) l)

module _ {n g m : ℕ} (b : n ≤ 4096) (d : g ≤ n) (S : IsStart (abs (fresh n g m))) where
  -- a turn of a run
  fine_turn : (st : Store) → Good n g m st → InRange st → (t : Turn) → Fine (turn t st)
  fine_turn st G R t = turn_fine st G.eight R (small n g st.rec.count b d (bounded S G)) t

  -- a run
  range-run : (turns : List Turn) (st : Store) → Good n g m st → InRange st → InRange (run st turns)
  unfolding run
  range-run [] st G R = R
  range-run (t ∷ ts) st G R = range-run ts (turn t st).store (good_turn st (turn t st) (turn-moves st G.eight t) G) (fine_turn st G R t).after

module _ (n g m : ℕ) (e : limits_ok n g m ≡ true) where
  -- the limits that make a fresh store a start of moves
  cells : n ≤ 4096
  unfolding limits_ok
  cells = leb-true _ _ (hold _ e).1.0

  pages : g ≤ n
  unfolding limits_ok
  pages = leb-true _ _ (hold _ e).1.1.1.1.0

  begins : IsStart (abs (fresh n g m))
  begins = start_is n g m pages cells

  -- every run from a fresh store
  pub run_in_range : (turns : List Turn) → InRange (run (fresh n g m) turns)
  run_in_range turns = range-run cells pages begins turns (fresh n g m) (good-fresh n g m) (fresh-range n g m e pages begins)

  -- the last sentence of Demand3
  pub stays_in_range : (turns : List Turn) (t : Turn) → ((turn t (run (fresh n g m) turns)).answer ≢ Err BadSize) × ((turn t (run (fresh n g m) turns)).answer ≢ Err BadNumber)
  stays_in_range turns t =
      let a = (fine_turn cells pages begins (run (fresh n g m) turns) (good n g m turns) (run_in_range turns) t).mild in
      (mild-not _ BadSize a (omega arith), mild-not _ BadNumber a (omega arith))
