-- The machine's lists as a store of moves: one law for each.
use Rattle.std.specs.Prelude.{ℕ, zero, suc, ◌+◌, ◌*◌, ◌<◌, ◌≡◌, refl, Bool, true, false, cond, ◌≢◌, List, [], ◌∷◌, ltb, length, get_or, set}
use Rattle.std.proofs.Common.{sym, ◌∙◌, ap, arith, get_or-set_same, get_or-set_other, ltb-true, lt-ltb, le-ltb, eqb-true, eq-eqb, ne_eqb}
use Rattle.std.proofs.Math.Path.{fun_ext}
use Rattle.std.proofs.Math.Decide.{dec_lt, ℕ_discrete}
use Rattle.std.proofs.Math.ListN.{get_or-eq_default}
use Rattle.std.proofs.Math.Seq.{set_out}
use Rattle.moves.specs.Base.{upd, upd2}
use Rattle.moves.proofs.Base.{upd_case, upd2-same, upd2_other}
use Rattle.moves.specs.Machine as Abstract
use Rattle.machine.specs.ChoiceLaws.{hold}
use Rattle.machine.specs.Limits.{none, lengths_ok, sizes_ok}
use Rattle.machine.specs.Store.{Store, fresh_row, fits, fits_record}
use Rattle.machine.specs.Gray.{grayed}
use Rattle.machine.specs.declared.Row.{Row}
use Rattle.runs.specs.Abs.{abs_row, abs_fields, Fit, Eight}

-- ---- one law for each list
-- an index in range meets no default
pub any_default : (l : List ℕ) (i a b : ℕ) → i < length l → get_or l i a ≡ get_or l i b
any_default [] i a b h = absurd (omega arith)
any_default (x ∷ xs) zero a b h = refl
any_default (x ∷ xs) (suc i) a b h = any_default xs i a b (omega arith)

-- what holds of each element, and of the default, holds after a change to an element of which it holds
pub set_all : {A : Type 0} (P : A → Type 0) (l : List A) (i : ℕ) (a d : A) → ((j : ℕ) → P (get_or l j d)) → P a → (j : ℕ) → P (get_or (set l i a) j d)
set_all P l i a d h p j = go (ℕ_discrete j i) (dec_lt i (length l))
  where
    go : Dec (j ≡ i) → Dec (i < length l) → P (get_or (set l i a) j d)
    go (yes q) (yes b) = rw (q, get_or-set_same l i a d b) p
    go (yes q) (no b) = rw (set_out l i a (omega arith)) (h j)
    go (no n) _ = rw (get_or-set_other l i j a d n) (h j)

-- the list as a function, one element changed
pub get_or-upd : {A : Type 0} (l : List A) (i : ℕ) (a d : A) → i < length l → (λ (j : ℕ). get_or (set l i a) j d) ≡ upd (λ j. get_or l j d) i a
get_or-upd l i a d h = fun_ext (λ j. upd_case (λ j x. get_or (set l i a) j d ≡ x) (λ j. get_or l j d) i a
    (get_or-set_same l i a d h) (λ j n. get_or-set_other l i j a d n) j)

-- an update that changes nothing
upd-nothing : (f : ℕ → ℕ) (i a : ℕ) → f i ≡ a → f ≡ upd f i a
upd-nothing f i a e = fun_ext (λ j. upd_case (λ j x. f j ≡ x) f i a e (λ j n. refl) j)

-- graying leaves what isn't white
shade-not : (c : ℕ) → c ≢ 1 → c ≡ Abstract.shade c
shade-not zero h = refl
shade-not (suc zero) h = absurd (h refl)
shade-not (suc (suc c)) h = refl

-- colours: graying any number, a cell or not
pub abs-grayed : (l : List ℕ) (v : ℕ) → (λ (j : ℕ). get_or (grayed l v) j 3) ≡ upd (λ j. get_or l j 3) v (Abstract.shade (get_or l v 3))
unfolding grayed
abs-grayed l v = go (dec_lt v (length l)) (ℕ_discrete (get_or l v 0) 1)
  where
    go : Dec (v < length l) → Dec (get_or l v 0 ≡ 1) → (λ (j : ℕ). get_or (grayed l v) j 3) ≡ upd (λ j. get_or l j 3) v (Abstract.shade (get_or l v 3))
    go (yes h) (yes e) = rw (lt-ltb v (length l) h, eq-eqb (get_or l v 0) 1 e, any_default l v 3 0 h, e, grayed) (get_or-upd l v 2 3 h)
    go (yes h) (no n) = rw (lt-ltb v (length l) h, ne_eqb (get_or l v 0) 1 n, grayed)
        (upd-nothing (λ j. get_or l j 3) v _ (shade-not (get_or l v 3) (λ e. n (any_default l v 0 3 h ∙ e))))
    go (no h) _ = rw (le-ltb v (length l) (omega arith), grayed)
        (upd-nothing (λ j. get_or l j 3) v _ (shade-not (get_or l v 3) (λ e. omega (arith, get_or-eq_default l 3 {n = v} (omega arith)))))

-- the desk: a row put back
pub abs-rows : (d : List Row) (w : ℕ) (r : Row) → w < length d
    → (λ (u : ℕ). abs_row (get_or (set d w r) u fresh_row)) ≡ upd (λ u. abs_row (get_or d u fresh_row)) w (abs_row r)
abs-rows d w r h = fun_ext (λ j. upd_case (λ j x. abs_row (get_or (set d w r) j fresh_row) ≡ x) (λ u. abs_row (get_or d u fresh_row)) w (abs_row r)
    (ap abs_row (get_or-set_same d w r fresh_row h)) (λ j n. ap abs_row (get_or-set_other d w j r fresh_row n)) j)

-- fields: a field written
pub abs-field : (l : List ℕ) (x f v : ℕ) → f < 4 → x * 4 + f < length l → abs_fields (set l (x * 4 + f) v) ≡ upd2 (abs_fields l) x f v
abs-field l x f v b h = fun_ext (λ y. fun_ext (λ k. go y k (ℕ_discrete y x) (ℕ_discrete k f)))
  where
    apart : (y k : ℕ) → (y ≡ x → k ≡ f → ⊥) → (t : Bool) → ltb k 4 ≡ t
        → cond t (get_or (set l (x * 4 + f) v) (y * 4 + k) none) none ≡ cond t (get_or l (y * 4 + k) none) none
    apart y k ne true e =
        get_or-set_other l (x * 4 + f) (y * 4 + k) v none (λ q. ne (omega (arith, ltb-true k 4 e)) (omega (arith, ltb-true k 4 e)))
    apart y k ne false e = refl

    go : (y k : ℕ) → Dec (y ≡ x) → Dec (k ≡ f) → abs_fields (set l (x * 4 + f) v) y k ≡ upd2 (abs_fields l) x f v y k
    go y k (no n) _ = apart y k (λ e _. n e) (ltb k 4) refl ∙ sym (upd2_other (abs_fields l) x f y k v (λ e _. n e))
    go y k (yes e) (no n) = apart y k (λ _ e. n e) (ltb k 4) refl ∙ sym (upd2_other (abs_fields l) x f y k v (λ _ e. n e))
    go y k (yes e) (yes q) = rw (e, q, upd2-same (abs_fields l) x f v, lt-ltb f 4 b, get_or-set_same l (x * 4 + f) v none h)

-- fields: the field of a cell, as the machine reads it
pub field_in : (l : List ℕ) (x f : ℕ) → f < 4 → x * 4 + f < length l → get_or l (x * 4 + f) 0 ≡ abs_fields l x f
field_in l x f b h = rw (lt-ltb f 4 b) (any_default l (x * 4 + f) 0 none h)

-- what refusal 1 leaves: its test as facts
pub fit : (st : Store) → fits_record st ≡ true → Fit st
unfolding fits sizes_ok lengths_ok
fit st e = let l = hold _ (hold _ e).1.0 in
    record { desk = eqb-true _ _ l.1.1.0; fields = eqb-true _ _ l.0; colours = eqb-true _ _ l.1.0 }

-- a row of eight slots put back
pub eight-put : (d : List Row) (w : ℕ) (r : Row) → Eight d → length r.slots ≡ 8 → Eight (set d w r)
eight-put d w r h e = set_all (λ (r : Row). length r.slots ≡ 8) d w r fresh_row h e
