-- What the exported calls write back tells the machine's store after the call.
use Rattle.std.specs.Prelude.{ℕ, ◌/◌, ◌<◌, ◌≡◌, refl, List, length, get_or, set}
use Rattle.std.proofs.Common.{sym, ap, ◌∙◌, arith, get_or-set_same}
use Rattle.machine.specs.Store.{Store, parts, fresh_row}
use Rattle.machine.specs.declared.Row.{Row}
use Rattle.turns.specs.Plain.{record_of, numbers_of, desk_of, with_row}
use Rattle.turns.proofs.PlainLaws.{record_back}
use Rattle.turns.specs.Calls.{Lent, all_after, row_after, record_after}
use Rattle.turns.proofs.Desk.{desk-length}
use Rattle.linked.proofs.Desk.{put-length, desk-put, rows-length, desk-written}
use Rattle.linked.specs.Tellable.{Tellable}
use Rattle.linked.specs.Telling.{Whole, Tells}

-- ---- what is written back
-- everything
pub all-tells : (p : Lent) (st : Store) → Tellable st → Tells (all_after p st) st
unfolding numbers_of
all-tells p st T = record {
  store = λ i. parts (record_back st.rec T.rec i) (desk-written st.desk T.rows i) st.fields st.colours;
  whole = record { nine = refl; whole = omega (arith, rows-length st.desk) };
}

-- the record
pub record_tells : (p : Lent) (st : Store) → Whole p → Tellable st → desk_of p.desk ≡ st.desk → Tells (record_after p st) st
unfolding numbers_of
record_tells p st W T e = record {
  store = λ i. parts (record_back st.rec T.rec i) (e i) st.fields st.colours;
  whole = record { nine = refl; whole = W.whole };
}

-- row w
pub row-tells : (p : Lent) (st : Store) (w : ℕ) (row : Row) → Whole p → Tellable st → w < length p.desk / 16 → record_of p.numbers ≡ st.rec → st.desk ≡ set (desk_of p.desk) w row
    → Tells (row_after w p st) st
row-tells p st w row W T h e d = record {
  store = λ i. parts (e i) (desk i) st.fields st.colours;
  whole = record { nine = W.nine; whole = rw (put-length p.desk w (get_or st.desk w fresh_row) h) W.whole };
}
  where
    there : get_or st.desk w fresh_row ≡ row
    there = ap (λ (l : List Row). get_or l w fresh_row) d ∙ get_or-set_same (desk_of p.desk) w row fresh_row (omega (arith, desk-length p.desk))

    desk : desk_of (with_row p.desk w (get_or st.desk w fresh_row)) ≡ st.desk
    desk = desk-put p.desk w (get_or st.desk w fresh_row) (T.rows w) h ∙ ap (set (desk_of p.desk) w) there ∙ sym d
