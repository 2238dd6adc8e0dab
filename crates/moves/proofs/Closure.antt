-- Closure: what is live is in use, none is live, and the updates that keep closure whoever makes them.
use Rattle.std.specs.Prelude.{◌≡◌, ℕ, zero, suc, ◌≤◌, ◌<◌}
use Rattle.std.proofs.Common.{◌∙◌, subst, arith}
use Rattle.moves.specs.Base.{upd}
use Rattle.moves.proofs.Base.{upd_case}
use Rattle.moves.specs.Machine.{Stage, rest, ask1, ask2, roots, scan, sweep, Job, Row, St, none, shade, gray, set_row}
use Rattle.moves.specs.Machine.{set_count}
use Rattle.moves.specs.Rows.{job_name}
use Rattle.moves.proofs.Colours.{shade_up, shade-dark}
use Rattle.moves.specs.Closure.{floor, Live, StatusFits, JobFits, Open, RowOK, Closed}

-- a dark cell is always live
pub floor-small : (σ : Stage) (i : ℕ) → floor σ i ≤ 2
floor-small rest i = omega arith
floor-small ask1 i = omega arith
floor-small ask2 i = omega arith
floor-small (roots p) i = omega arith
floor-small (scan p k h f) i = omega arith
floor-small (sweep p) i = omega arith

-- a live cell is in use
pub live_used : (σ : Stage) (c : ℕ → ℕ) (i : ℕ) → Live σ c i → 1 ≤ c i
live_used rest c i h = h
live_used ask1 c i h = h
live_used ask2 c i h = h
live_used (roots p) c i h = h
live_used (scan p k q f) c i h = h
live_used (sweep p) c i h = omega arith

-- none is live
pub none_live : {σ : Stage} {s : St} → Closed σ s → Live σ s.colour none
none_live {σ} {s} c = omega (arith, floor-small σ none, c.nil none (omega (arith, c.room)))

-- none is dark
pub none-dark : {σ : Stage} {s : St} → Closed σ s → 2 ≤ s.colour none
none-dark c = omega (arith, c.nil none (omega (arith, c.room)))

-- the numbers of a job that a guard tells of are live
pub names_of : {σ : Stage} {s : St} → Closed σ s → (w : ℕ) → w < s.M → {j : Job} → (s.rows w).job ≡ j → (k : ℕ)
    → Live σ s.colour (job_name j k)
names_of {σ} {s} c w l {j} e k = subst (λ j. Live σ s.colour (job_name j k)) e ((c.rows w l).names k)

-- a job that a guard tells of fits the stage
pub fits_of : {σ : Stage} {s : St} → Closed σ s → (w : ℕ) → w < s.M → {j : Job} → (s.rows w).job ≡ j
    → JobFits σ s.N (s.rows w).status j
fits_of {σ} {s} c w l {j} e = subst (λ j. JobFits σ s.N (s.rows w).status j) e (c.rows w l).fits

-- a row is put back
pub closed-row : {σ : Stage} {s : St} → Closed σ s → (w : ℕ) (r : Row) → RowOK σ s.N s.colour r → Closed σ (set_row s w r)
closed-row {σ} {s} c w r h = record {
  room = c.room;
  nil = c.nil;
  pages = c.pages;
  fields = c.fields;
  «open» = c.open;
  rows = upd_case (λ j q. j < s.M → RowOK σ s.N s.colour q) s.rows w r (λ _. h) (λ j n l. c.rows j l);
}

-- a store with other colours and another count
abbrev recolour : St → (ℕ → ℕ) → ℕ → St
recolour s c k = record { N = s.N; g = s.g; M = s.M; colour = c; field = s.field; rows = s.rows; count = k }

-- colours, stage and count change, what is live does not, and each row fits the new stage
pub closed-by : {σ : Stage} {s : St} → Closed σ s → (σ' : Stage) (c' : ℕ → ℕ) (k : ℕ)
    → ((i : ℕ) → Live σ s.colour i → Live σ' c' i) → ((i : ℕ) → Live σ' c' i → Live σ s.colour i)
    → ((i : ℕ) → s.N ≤ i → c' i ≡ 3) → Open σ' c'
    → ((w : ℕ) → w < s.M → StatusFits σ' (s.rows w).status × JobFits σ' s.N (s.rows w).status (s.rows w).job)
    → Closed σ' (recolour s c' k)
closed-by {σ} {s} c σ' c' k up down nil o h = record {
  room = c.room;
  nil = nil;
  «open» = o;
  pages = λ p l. up p (c.pages p l);
  fields = λ x f l b. up _ (c.fields x f (down x l) b);
  rows = λ w l. record {
    status = (h w l).0;
    slots = λ j b. up _ ((c.rows w l).slots j b);
    names = λ j. up _ ((c.rows w l).names j);
    fits = (h w l).1;
  };
}

-- as long as the stage stays, each row fits it as before
pub kept-fits : {σ : Stage} {s : St} → Closed σ s → (w : ℕ) → w < s.M
    → StatusFits σ (s.rows w).status × JobFits σ s.N (s.rows w).status (s.rows w).job
kept-fits c w l = ((c.rows w l).status, (c.rows w l).fits)

-- the open cell stays gray when v is grayed
open_gray : (σ : Stage) (c : ℕ → ℕ) (v : ℕ) → Open σ c → Open σ (upd c v (shade (c v)))
open_gray rest c v o = tt
open_gray ask1 c v o = tt
open_gray ask2 c v o = tt
open_gray (roots p) c v o = tt
open_gray (scan p zero h f) c v o =
    upd_case (λ i x. 1 ≤ c i → 1 ≤ x) c v (shade (c v)) (λ e. omega (arith, shade_up (c v))) (λ j n e. e) h o
open_gray (scan p (suc k) h f) c v o = (
  upd_case (λ i x. c i ≡ 2 → x ≡ 2) c v (shade (c v)) (λ e. shade-dark (c v) (omega arith) ∙ e) (λ j n e. e) p o.0,
  upd_case (λ i x. 1 ≤ c i → 1 ≤ x) c v (shade (c v)) (λ e. omega (arith, shade_up (c v))) (λ j n e. e) h o.1,
)
open_gray (sweep p) c v o = tt

-- a live number is grayed
pub closed-gray : {σ : Stage} {s : St} → Closed σ s → (v k : ℕ) → Live σ s.colour v → Closed σ (set_count (gray s v) k)
closed-gray {σ} {s} c v k l =
    closed-by c σ (upd s.colour v (shade (s.colour v))) k
    (upd_case (λ i x. Live σ s.colour i → floor σ i ≤ x) _ v _ (λ h. omega (arith, shade_up (s.colour v))) (λ j n h. h))
    (upd_case (λ i x. floor σ i ≤ x → Live σ s.colour i) _ v _ (λ _. l) (λ j n h. h))
    (upd_case (λ i x. s.N ≤ i → x ≡ 3) _ v _ (λ h. let e = c.nil v h in shade-dark (s.colour v) (omega arith) ∙ e)
    (λ j n h. c.nil j h))
    (open_gray σ s.colour v c.open)
    (kept-fits c)
