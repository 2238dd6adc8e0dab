-- The desk's words tell what was written to them: the row that was put there, and rows written one after the other.
use Rattle.std.specs.Prelude.{ℕ, zero, suc, ◌+◌, ◌*◌, ◌/◌, ◌<◌, ◌≤◌, ◌≡◌, refl, List, [], ◌∷◌, ◌++◌, true, ltb, length, get_or, set, take, drop}
use Rattle.std.proofs.Common.{sym, ap, ◌∙◌, append_assoc, arith, length-append, length-drop, take-append-drop, length-take-le, take-add, drop-drop, drop_at, ltb-true, lt-ltb}
use Rattle.std.proofs.Math.ListN.{get_or-append}
use Rattle.machine.specs.Store.{fresh_row}
use Rattle.machine.specs.declared.Row.{Row}
use Rattle.turns.specs.Plain.{row_of, rows_of, desk_of, words_of, row_words, with_row}
use Rattle.turns.specs.Fits.{RowFits}
use Rattle.turns.proofs.PlainLaws.{row_back}

-- ---- the first row
-- it is told by the first 16 words, whatever stands behind them
row_first : (ws l l' : List ℕ) → length ws ≡ 16 → row_of (ws ++ l) ≡ row_of (ws ++ l')
unfolding row_of
row_first ws l l' e =
    rw (same 0 refl, same 1 refl, same 2 refl, same 3 refl, same 4 refl, same 5 refl, same 6 refl, same 7 refl, same 8 refl, same 9 refl, same 10 refl, same 11 refl, same 12 refl, same 13 refl, same 14 refl)
  where
    same : (i : ℕ) → ltb i 16 ≡ true → get_or (ws ++ l) i 0 ≡ get_or (ws ++ l') i 0
    same i t = let h = ltb-true i 16 t in get_or-append ws l 0 i (omega arith) ∙ sym (get_or-append ws l' 0 i (omega arith))

-- and a row whose words stand there is told by them
row_written : (row : Row) (l : List ℕ) → RowFits row → row_of (words_of row ++ l) ≡ row
unfolding row_of words_of
row_written row l f = row_back row f

-- ---- a row that is put
-- row w + 1 of the words is row w of the words behind the first row
put_behind : (w : ℕ) (words ws : List ℕ) → take (suc w * 16) words ++ ws ++ drop (suc w * 16 + 16) words ≡ take 16 words ++ (take (w * 16) (drop 16 words) ++ ws ++ drop (w * 16 + 16) (drop 16 words))
put_behind w words ws =
    let e : suc w * 16 ≡ 16 + w * 16 = omega arith in
    let d : suc w * 16 + 16 ≡ 16 + (w * 16 + 16) = omega arith in
    rw (d, e, take-add 16 (w * 16) words, drop-drop (w * 16 + 16) 16 words)
    (ap (λ (l : List ℕ). l ++ drop (16 + (w * 16 + 16)) words) (append_assoc (take 16 words) (take (w * 16) (drop 16 words)) ws)
    ∙ append_assoc (take 16 words) (take (w * 16) (drop 16 words) ++ ws) (drop (16 + (w * 16 + 16)) words))

-- of k rows, row w
rows-put : (k w : ℕ) (words : List ℕ) (row : Row) → RowFits row → w < k → k * 16 ≤ length words
    → rows_of k (take (w * 16) words ++ words_of row ++ drop (w * 16 + 16) words) ≡ set (rows_of k words) w row
unfolding rows_of words_of
rows-put zero w words row f h b = absurd (omega arith)
rows-put (suc k) zero words row f h b = ap (λ (r : Row). r ∷ rows_of k (drop 16 words)) (row_written row (drop 16 words) f)
rows-put (suc k) (suc w) words row f h b = rw (put_behind w words (words_of row)) (λ i. first i ∷ others (rows-put k w (drop 16 words) row f (omega arith) (omega (arith, length-drop 16 words))) i)
  where
    rest : List ℕ
    rest = take (w * 16) (drop 16 words) ++ words_of row ++ drop (w * 16 + 16) (drop 16 words)

    sixteen : length (take 16 words) ≡ 16
    sixteen = length-take-le 16 words (omega arith)

    first : row_of (take 16 words ++ rest) ≡ row_of words
    first = row_first (take 16 words) rest (drop 16 words) sixteen ∙ ap row_of (take-append-drop 16 words)

    others : rows_of k rest ≡ set (rows_of k (drop 16 words)) w row → rows_of k (drop 16 (take 16 words ++ rest)) ≡ set (rows_of k (drop 16 words)) w row
    others e = ap (rows_of k) (drop_at (take 16 words) rest 16 sixteen) ∙ e

-- as many words as before
pub put-length : (words : List ℕ) (w : ℕ) (row : Row) → w < length words / 16 → length (with_row words w row) ≡ length words
unfolding with_row words_of
put-length words w row h =
    rw (lt-ltb w (length words / 16) h, length-append, length-append, length-take-le (w * 16) words (omega arith), length-drop (w * 16 + 16) words) (omega arith)

-- the desk with a row put in its place
pub desk-put : (words : List ℕ) (w : ℕ) (row : Row) → RowFits row → w < length words / 16 → desk_of (with_row words w row) ≡ set (desk_of words) w row
unfolding desk_of with_row
desk-put words w row f h =
    rw (put-length words w row h, lt-ltb w (length words / 16) h) (rows-put (length words / 16) w words row f h (omega arith))

-- ---- rows written one after the other
-- how many words
pub rows-length : (rows : List Row) → length (row_words rows) ≡ length rows * 16
unfolding row_words words_of
rows-length [] = refl
rows-length (row ∷ rows) = let e = rows-length rows in omega arith

-- each of them is told
rows_written : (rows : List Row) → ((w : ℕ) → RowFits (get_or rows w fresh_row)) → rows_of (length rows) (row_words rows) ≡ rows
unfolding rows_of row_words words_of
rows_written [] f = refl
rows_written (row ∷ rows) f = λ i. row_written row (row_words rows) (f 0) i ∷ rows_written rows (λ w. f (suc w)) i

-- and the desk is these rows
pub desk-written : (rows : List Row) → ((w : ℕ) → RowFits (get_or rows w fresh_row)) → desk_of (row_words rows) ≡ rows
unfolding desk_of
desk-written rows f = let e : length (row_words rows) / 16 ≡ length rows = omega (arith, rows-length rows) in rw e (rows_written rows f)
