-- The statuses in the desk's words: what is asked of each row's first word is asked of the row.
use Rattle.std.specs.Prelude.{◌≡◌, ℕ, zero, suc, ◌+◌, ◌<◌, ◌≤◌, ◌/◌, ◌&&◌, ◌==◌, Bool, true, false, nat_le, List, [], ◌∷◌, length, get_or, take, drop, Ok, Err}
use Rattle.std.specs.List.{list_all}
use Rattle.std.specs.Simd.{first_chunks}
use Rattle.std.proofs.Common.{refl, sym, ap, ◌∙◌, arith}
use Rattle.machine.specs.Choice.{pick, all, refuse}
use Rattle.machine.specs.Stage.{posted}
use Rattle.machine.specs.Range.{status_ok}
use Rattle.machine.specs.Collector.{has_status, survey}
use Rattle.machine.specs.declared.Record.{Record}
use Rattle.machine.specs.declared.Row.{Row}
use Rattle.machine.specs.declared.Refusal.TheVariants.{BadNumber}
use Rattle.turn.specs.Lent.{rows_read, seen}
use Rattle.turns.specs.Plain.{byte_of, row_of, rows_of, desk_of}
use Rattle.turns.proofs.Desk.{desk-length, first-16}

-- the rows' words, as `as_chunks` gives them
abbrev pub chunks : List ℕ → List (List ℕ)
chunks words = first_chunks 16 (length words / 16) words

all-rows : (t : Row → Bool) (n k : ℕ) (words : List ℕ) → list_all (λ ws. t (row_of ws)) (take n (first_chunks 16 k words)) ≡ all t (take n (rows_of k words))
unfolding all rows_of
all-rows t zero k words = refl
all-rows t (suc n) zero words = refl
all-rows t (suc n) (suc k) words = rw (first-16 words) (go (t (row_of words)) (all-rows t n k (drop 16 words)))
  where
    go : (b : Bool) → list_all (λ ws. t (row_of ws)) (take n (first_chunks 16 k (drop 16 words))) ≡ all t (take n (rows_of k (drop 16 words)))
        → (b && list_all (λ ws. t (row_of ws)) (take n (first_chunks 16 k (drop 16 words)))) ≡ pick b (all t (take n (rows_of k (drop 16 words)))) false
    go true e = e
    go false e = refl

-- a row's status is within its limits, or is the one posted
abbrev pub status_in : List ℕ → Bool
status_in ws = nat_le (byte_of (get_or ws 0 0)) 2

abbrev pub status_is : ℕ → List ℕ → Bool
status_is number ws = byte_of (get_or ws 0 0) == number

-- of these rows the first n are read
module _ (rec : Record) (words : List ℕ) (rows : List (List ℕ)) (n : ℕ) (front : rows ≡ chunks words) (reads : n ≡ rows_read rec (length rows)) (long : length rows ≡ length words / 16) where
  read : take n (rows_of (length words / 16) words) ≡ take (rows_read rec (length (desk_of words))) (desk_of words)
  unfolding desk_of
  read = ap (λ (k : ℕ). take k (rows_of (length words / 16) words)) (reads ∙ ap (rows_read rec) (long ∙ sym (desk-length words)))

  asked : (t : Row → Bool) → list_all (λ ws. t (row_of ws)) (take n rows) ≡ all t (take (rows_read rec (length (desk_of words))) (desk_of words))
  asked t = rw front (all-rows t n (length words / 16) words) ∙ ap (all t) read

  pub saw-bad : (a : Bool) → a ≡ list_all status_in (take n rows) → a ≡ false → Err BadNumber ≡ seen rec (desk_of words)
  unfolding seen survey refuse status_ok row_of
  saw-bad a e f = rw (sym (asked status_ok) ∙ sym e ∙ f) refl

  pub saw-all : (a b : Bool) (number : ℕ) → a ≡ list_all status_in (take n rows) → a ≡ true → number ≡ posted rec.stage → b ≡ list_all (status_is number) (take n rows) → Ok b ≡ seen rec (desk_of words)
  unfolding seen survey refuse status_ok has_status row_of
  saw-all a b number e f p d =
      rw (sym (asked status_ok) ∙ sym e ∙ f) (ap Ok (d ∙ ap (λ (k : ℕ). list_all (status_is k) (take n rows)) p ∙ asked (has_status (posted rec.stage))))
