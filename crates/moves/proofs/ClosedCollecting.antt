-- Closure under the collector's moves. The scan's end is the one that asks for more: that all that is named is dark.
use Rattle.std.specs.Prelude.{◌≡◌, refl, ℕ, suc, ◌+◌, ◌≤◌, ◌<◌}
use Rattle.std.proofs.Common.{arith}
use Rattle.std.proofs.Math.Decide.{dec_lt}
use Rattle.moves.specs.Base.{upd}
use Rattle.moves.proofs.Base.{upd_case}
use Rattle.moves.specs.Machine.{Stage, rest, ask1, ask2, roots, scan, sweep, taken, kept, whiten, Job, idle, answering}
use Rattle.moves.specs.Machine.{storing, creating, St, none, set_colour, set_count, tick}
use Rattle.moves.specs.Collecting.{swept_to, Collecting, opening, asked1, asked2, root, rooted, skip, opened, again}
use Rattle.moves.specs.Collecting.{scanned, hold, gray-hold, done, swept, closing, next-stage, collected}
use Rattle.moves.proofs.Colours.{swept_iff}
use Rattle.moves.specs.Closure.{floor, Live, StatusFits, MayWhiten, MayAnswer, JobFits, Open, Closed}
use Rattle.moves.proofs.Closure.{none_live, closed-by, closed-gray}
use Rattle.moves.specs.ClosedCollecting.{Clean, NeedsClean}

-- a job fits another stage if a decided white and an answer do
fits-stage : (σ σ' : Stage) (N st : ℕ) → ((n : ℕ) → n < N → MayWhiten σ st n → MayWhiten σ' st n)
    → (MayAnswer σ st → MayAnswer σ' st) → (j : Job) → JobFits σ N st j → JobFits σ' N st j
fits-stage σ σ' N st m a idle h = tt
fits-stage σ σ' N st m a (answering i) h = a h
fits-stage σ σ' N st m a (storing q ph c f v o) h = tt
fits-stage σ σ' N st m a (creating taken n i) h = h
fits-stage σ σ' N st m a (creating kept n i) h = h
fits-stage σ σ' N st m a (creating whiten n i) h = (h.0, m n h.0 h.1)

-- the stage alone changes, and what is live does not
closed-stage : {σ : Stage} {s : St} → Closed σ s → (σ' : Stage) (k : ℕ)
    → ((i : ℕ) → Live σ s.colour i → Live σ' s.colour i) → ((i : ℕ) → Live σ' s.colour i → Live σ s.colour i)
    → Open σ' s.colour
    → ((w : ℕ) → w < s.M → StatusFits σ' (s.rows w).status)
    → ((w : ℕ) → w < s.M → (n : ℕ) → n < s.N → MayWhiten σ (s.rows w).status n → MayWhiten σ' (s.rows w).status n)
    → ((w : ℕ) → w < s.M → MayAnswer σ (s.rows w).status → MayAnswer σ' (s.rows w).status)
    → Closed σ' (set_count s k)
closed-stage {σ} {s} c σ' k up down o st m a =
    closed-by c σ' s.colour k up down c.nil o
    (λ w l. (st w l, fits-stage σ σ' s.N (s.rows w).status (m w l) (a w l) (s.rows w).job (c.rows w l).fits))

-- the scan's end: what is live are now the dark cells
closed-scanned : {h p k f : ℕ} {s : St} → Closed (scan p k h f) s → Clean s → Closed (sweep 0) (tick s)
closed-scanned {h} {p} {k} {f} {s} c d = record {
  room = c.room;
  nil = c.nil;
  «open» = tt;
  pages = λ p l. omega (arith, d.pages p l);
  fields = λ x f l b. omega (arith, d.fields x f (omega arith) b);
  rows = λ w l. record {
    status = (c.rows w l).status;
    slots = λ j b. omega (arith, d.slots w j l b);
    names = λ j. omega (arith, d.names w j l);
    fits = fits-stage (scan p k h f) (sweep 0) s.N (s.rows w).status (λ n b x. absurd x) (λ x. absurd x) (s.rows w).job
        (c.rows w l).fits;
  };
}

-- part 9: the open cell becomes black
closed-done : {p f : ℕ} {s : St} → Closed (scan p 9 none f) s → p < s.N
    → Closed (scan (p + 1) 0 none f) (tick (set_colour s p 3))
closed-done {p} {f} {s} c l =
    closed-by c (scan (p + 1) 0 none f) (upd s.colour p 3) (s.count + 1)
    (upd_case (λ i x. 1 ≤ s.colour i → 1 ≤ x) _ p _ (λ h. omega arith) (λ j n h. h))
    (upd_case (λ i x. 1 ≤ x → 1 ≤ s.colour i) _ p _ (λ h. omega (arith, c.open)) (λ j n h. h))
    (upd_case (λ i x. s.N ≤ i → x ≡ 3) _ p _ (λ h. refl) (λ j n h. c.nil j h))
    (upd_case (λ i x. 1 ≤ s.colour i → 1 ≤ x) _ p _ (λ h. omega arith) (λ j n h. h) none (none_live c))
    (λ w l. (
      (c.rows w l).status,
      fits-stage (scan p 9 none f) (scan (p + 1) 0 none f) s.N (s.rows w).status (λ n b h. h)
          (λ h. h) (s.rows w).job (c.rows w l).fits,
    ))

-- a job fits the sweep's next place
fits-swept : (N p st : ℕ) (j : Job) → JobFits (sweep p) N st j → JobFits (sweep (p + 1)) N st j
fits-swept N p st idle h = tt
fits-swept N p st (answering i) h = h
fits-swept N p st (storing q ph c f v o) h = tt
fits-swept N p st (creating taken n i) h = h
fits-swept N p st (creating kept n i) h = h
fits-swept N p st (creating whiten n i) h = omega arith

-- the sweep's turn on one cell: behind the place a white cell is live
closed-swept : {p : ℕ} {s : St} → Closed (sweep p) s → p < s.N
    → Closed (sweep (p + 1)) (tick (set_colour s p (swept_to (s.colour p))))
closed-swept {p} {s} c l =
    let q = swept_iff (s.colour p) in
    closed-by c (sweep (p + 1)) (upd s.colour p (swept_to (s.colour p))) (s.count + 1)
    (upd_case (λ i x. Live (sweep p) s.colour i → floor (sweep (p + 1)) i ≤ x) _ p _
    (λ h. let a : 1 ≤ swept_to (s.colour p) = q.0 (omega arith) in omega arith) (λ j e h. omega arith))
    (upd_case (λ i x. floor (sweep (p + 1)) i ≤ x → Live (sweep p) s.colour i) _ p _
    (λ h. let a : 2 ≤ s.colour p = q.1 (omega arith) in omega arith) (λ j e h. omega arith))
    (upd_case (λ i x. s.N ≤ i → x ≡ 3) _ p _ (λ h. omega arith) (λ j e h. c.nil j h))
    tt
    (λ w h. ((c.rows w h).status, fits-swept s.N p (s.rows w).status (s.rows w).job (c.rows w h).fits))

-- at the closing every cell in use is live
pub closing_down : {s : St} → Closed (sweep s.N) s → (i : ℕ) → 1 ≤ s.colour i → Live (sweep s.N) s.colour i
closing_down {s} c i h = go (dec_lt i s.N)
  where
    go : Dec (i < s.N) → Live (sweep s.N) s.colour i
    go (yes l) = omega arith
    go (no l) = omega (arith, c.nil i (omega arith))

-- every move of the collector keeps closure
pub closed-collecting : {s : St} {σ : Stage} → Closed σ s → (m : Collecting s σ) → NeedsClean m
    → Closed (next-stage m) (collected m)
closed-collecting {s} c opening q =
    closed-stage c ask1 1 (λ i h. h) (λ i h. h) tt (λ w l. omega (arith, (c.rows w l).status)) (λ w l n b h. tt)
    (λ w l h. absurd h)
closed-collecting {s} c (asked1 a) q =
    closed-stage c ask2 (s.count + 1) (λ i h. h) (λ i h. h) tt (λ w l. omega (arith, a w l)) (λ w l n b h. tt)
    (λ w l h. absurd h)
closed-collecting {s} c (asked2 a) q =
    closed-stage c (roots 0) (s.count + 1) (λ i h. h) (λ i h. h) tt (λ w l. omega (arith, a w l)) (λ w l n b h. a w l)
    (λ w l h. absurd h)
closed-collecting {s} c (root p l) q =
    closed-stage (closed-gray c p s.count (c.pages p l)) (roots (p + 1)) (s.count + 1) (λ i h. h) (λ i h. h) tt
    (λ w l. (c.rows w l).status) (λ w l n b h. h) (λ w l h. h)
closed-collecting {s} c (rooted a) q =
    closed-stage c (scan 0 0 none 0) (s.count + 1) (λ i h. h) (λ i h. h) (none_live c) (λ w l. a w l)
    (λ w l n b h. omega (arith, a w l)) (λ w l h. omega (arith, a w l))
closed-collecting {s} c (skip p f l e) q =
    closed-stage c (scan (p + 1) 0 none f) (s.count + 1) (λ i h. h) (λ i h. h) (none_live c) (λ w l. (c.rows w l).status)
    (λ w l n b h. h) (λ w l h. h)
closed-collecting {s} c (opened p f l e) q =
    closed-stage c (scan p 1 none 1) (s.count + 1) (λ i h. h) (λ i h. h) (e, none_live c) (λ w l. (c.rows w l).status)
    (λ w l n b h. h) (λ w l h. h)
closed-collecting {s} c again q =
    closed-stage c (scan 0 0 none 0) (s.count + 1) (λ i h. h) (λ i h. h) (none_live c) (λ w l. (c.rows w l).status)
    (λ w l n b h. h) (λ w l h. h)
closed-collecting {s} c scanned q = closed-scanned c q
closed-collecting {s} c (hold p k f l) q =
    closed-stage c (scan p (suc (suc (k + k))) (s.field p k) f) (s.count + 1) (λ i h. h) (λ i h. h)
    (c.open.0, c.fields p k (omega arith) l) (λ w l. (c.rows w l).status) (λ w l n b h. h) (λ w l h. h)
closed-collecting {s} c (gray-hold p k h f l) q = let c' = closed-gray c h s.count c.open.1 in
    closed-stage c' (scan p (suc (suc (suc (k + k)))) none f) (s.count + 1) (λ i h. h) (λ i h. h) (c'.open.0, none_live c')
    (λ w l. (c.rows w l).status) (λ w l n b h. h) (λ w l h. h)
closed-collecting {s} c (done p f l) q = closed-done c l
closed-collecting {s} c (swept p l) q = closed-swept c l
closed-collecting {s} c closing q =
    closed-stage c rest (s.count + 1) (λ i h. omega arith) (λ i h. closing_down c i h) tt (λ w l. (c.rows w l).status)
    (λ w l n b h. tt) (λ w l h. absurd h)
