-- Tidiness: what the jobs have grayed stays dark, and the one lemma for a row that is put back.
use Rattle.std.specs.Prelude.{◌≡◌, refl, ◌≢◌, ℕ, ◌≤◌, ◌<◌}
use Rattle.std.proofs.Common.{sym, arith}
use Rattle.std.proofs.Math.Decide.{ℕ_discrete}
use Rattle.moves.specs.Base.{upd}
use Rattle.moves.proofs.Base.{upd_case}
use Rattle.moves.specs.Machine.{Stage, bare, trace, full, Phase, reading, graying_old, graying_new, writing, Made, Job}
use Rattle.moves.specs.Machine.{idle, answering, storing, creating, Row, St}
use Rattle.moves.specs.Rows.{job_name}
use Rattle.moves.specs.Closure.{Live, Closed}
use Rattle.moves.specs.Protection.{Tracing, OldAt, OldIs}
use Rattle.moves.specs.Tidiness.{PastOld, PastNew, JobDark, Fresh, FreshIn, IsAsk2, Tidy}

-- a weaker X
past-old : {X Y : Type 0} (ph : Phase) → (X → Y) → PastOld ph X → PastOld ph Y
past-old reading m h = tt
past-old graying_old m h = tt
past-old graying_new m h = m h
past-old writing m h = m h

-- a weaker X
past-new : {X Y : Type 0} (ph : Phase) → (X → Y) → PastNew ph X → PastNew ph Y
past-new reading m h = tt
past-new graying_old m h = tt
past-new graying_new m h = tt
past-new writing m h = m h

-- X, if it holds anyhow
past_pure : {X : Type 0} (ph : Phase) → X → PastOld ph X
past_pure reading h = tt
past_pure graying_old h = tt
past_pure graying_new h = h
past_pure writing h = h

-- what the job carries stays dark or black, and tracing does not begin
pub dark-map : (σ σ' : Stage) (c c' : ℕ → ℕ) (st : ℕ) (j : Job) → (Tracing σ' → Tracing σ)
    → ((k : ℕ) → 2 ≤ c (job_name j k) → 2 ≤ c' (job_name j k)) → ((k : ℕ) → c (job_name j k) ≡ 3 → c' (job_name j k) ≡ 3)
    → JobDark σ c st j → JobDark σ' c' st j
dark-map σ σ' c c' st idle t d b h = tt
dark-map σ σ' c c' st (answering i) t d b h = tt
dark-map σ σ' c c' st (storing bare ph x f v o) t d b h = (h.0, λ q. h.1 (t q))
dark-map σ σ' c c' st (storing trace ph x f v o) t d b h = (h.0, past-old ph (λ g q. d 2 (g (t q))) h.1)
dark-map σ σ' c c' st (storing full ph x f v o) t d b h = (h.0, past-old ph (d 2) h.1, past-new ph (d 1) h.2)
dark-map σ σ' c c' st (creating m n i) t d b h = (λ q. b 0 (h.0 q), λ q. b 0 (h.1 (t q)))

-- at status 0, where there is no tracing, the colours do not matter
pub dark-zero : (σ σ' : Stage) (c c' : ℕ → ℕ) (st : ℕ) (j : Job) → st ≡ 0 → (Tracing σ' → ⊥) → JobDark σ c st j
    → JobDark σ' c' st j
dark-zero σ σ' c c' st idle z t h = tt
dark-zero σ σ' c c' st (answering i) z t h = tt
dark-zero σ σ' c c' st (storing bare ph x f v o) z t h = (h.0, t)
dark-zero σ σ' c c' st (storing trace ph x f v o) z t h = (h.0, past_pure ph (λ q. absurd (t q)))
dark-zero σ σ' c c' st (storing full ph x f v o) z t h = absurd (omega (arith, h.0))
dark-zero σ σ' c c' st (creating m n i) z t h = (λ q. absurd (omega arith), λ q. absurd (t q))

-- at status 2 the stage does not matter
pub dark-two : (σ σ' : Stage) (c : ℕ → ℕ) (st : ℕ) (j : Job) → st ≡ 2 → JobDark σ c st j → JobDark σ' c st j
dark-two σ σ' c st idle z h = tt
dark-two σ σ' c st (answering i) z h = tt
dark-two σ σ' c st (storing bare ph x f v o) z h = absurd (omega (arith, h.0))
dark-two σ σ' c st (storing trace ph x f v o) z h = absurd (omega (arith, h.0))
dark-two σ σ' c st (storing full ph x f v o) z h = h
dark-two σ σ' c st (creating m n i) z h = (h.0, λ q. h.0 (omega arith))

-- a store that is not solid at (x, f) is one to a field of x
loose_at : (ph : Phase) (c k o x f v : ℕ) → ¬ OldAt ph c k o x f v → x ≡ c
loose_at ph c k o x f v h = go (ℕ_discrete c x)
  where
    all : (ph : Phase) → ¬ (c ≡ x) → OldAt ph c k o x f v
    all reading e = tt
    all graying_old e = λ q. absurd (e q)
    all graying_new e = λ q. absurd (e q)
    all writing e = λ q. absurd (e q)

    go : Dec (c ≡ x) → x ≡ c
    go (yes e) = sym e
    go (no e) = absurd (h (all ph e))

-- the same of a job
loose-cell : (j : Job) (x f v : ℕ) → ¬ OldIs j x f v → x ≡ job_name j 0
loose-cell idle x f v h = absurd (h tt)
loose-cell (answering i) x f v h = absurd (h tt)
loose-cell (storing bare ph c k n o) x f v h = absurd (h tt)
loose-cell (storing trace ph c k n o) x f v h = loose_at ph c k o x f v h
loose-cell (storing full ph c k n o) x f v h = loose_at ph c k o x f v h
loose-cell (creating m n i) x f v h = absurd (h tt)

-- so x is live
pub loose_live : {σ : Stage} {s : St} → Closed σ s → (w x f v : ℕ) → w < s.M → ¬ OldIs (s.rows w).job x f v
    → Live σ s.colour x
loose_live {σ} {s} C w x f v l h = rw (loose-cell (s.rows w).job x f v h) ((C.rows w l).names 0)

-- The row of writer w becomes r, and the colours c. Of the colours it is asked that what the other jobs carry stays dark (dk)
-- or black (bk), that no cell becomes live (down), that they stay in range (bd), and that what a field of a live cell holds
-- stays dark (sd). Of the row: that its job has grayed what it must (jd), that it names no cell which another row creates
-- (ot), that the cell which it creates is fresh and in no slot of it (ow), and that its job is not stale (st).
module _ {σ : Stage} {s : St} (C : Closed σ s) (T : Tidy σ s) (c : ℕ → ℕ) (w : ℕ) (r : Row)
    (dk : (u k : ℕ) → u < s.M → u ≢ w → 2 ≤ s.colour (job_name (s.rows u).job k) → 2 ≤ c (job_name (s.rows u).job k))
    (bk : (u k : ℕ) → u < s.M → u ≢ w → s.colour (job_name (s.rows u).job k) ≡ 3 → c (job_name (s.rows u).job k) ≡ 3)
    (down : (x : ℕ) → Live σ c x → Live σ s.colour x) (bd : (i : ℕ) → c i ≤ 3)
    (sd : (x f : ℕ) → Live σ s.colour x → f < 4 → 2 ≤ s.colour (s.field x f) → 2 ≤ c (s.field x f)) where
  module _ (jd : JobDark σ c r.status r.job)
      (ot : (u n k : ℕ) (m : Made) → u < s.M → u ≢ w → (s.rows u).job ≡ creating m n k → FreshIn σ s u n
      → ((j : ℕ) → j < 8 → r.slots j ≢ n) × ((j : ℕ) → job_name r.job j ≢ n))
      (ow : (m : Made) (n k : ℕ) → r.job ≡ creating m n k → FreshIn σ s w n × ((j : ℕ) → j < 8 → r.slots j ≢ n))
      (st : IsAsk2 σ → r.status ≡ 2 → (x f : ℕ) → f < 4 → ¬ OldIs r.job x f (s.field x f) → 2 ≤ c (s.field x f)) where
    -- the rows after
    abbrev pub rs' : ℕ → Row
    rs' = upd s.rows w r

    -- a cell stays fresh if the new row does not name it
    fresh_in : (u n : ℕ) → FreshIn σ s u n → ((j : ℕ) → j < 8 → r.slots j ≢ n) → (w ≢ u → (j : ℕ) → job_name r.job j ≢ n)
        → Fresh σ s.N s.g s.M c s.field rs' u n
    fresh_in u n F a b = record {
      page = F.page;
      small = F.small;
      own = F.own;
      slot = upd_case (λ i q. (k : ℕ) → i < s.M → k < 8 → q.slots k ≢ n) s.rows w r (λ k _ d. a k d)
          (λ i ne k l d. F.slot i k l d);
      job = upd_case (λ i q. (k : ℕ) → i < s.M → i ≢ u → job_name q.job k ≢ n) s.rows w r (λ k _ d. b d k)
          (λ i ne k l d. F.job i k l d);
      field = λ x f l b. F.field x f (down x l) b;
    }

    -- One row is put back, and perhaps colours change: what the other jobs carry stays dark or black, no cell becomes live,
    -- and the new row does what it must.
    pub tidy-row : Tidy σ (record { N = s.N; g = s.g; M = s.M; colour = c; field = s.field; rows = rs'; count = s.count })
    tidy-row = record {
      jobs = upd_case (λ i q. i < s.M → JobDark σ c q.status q.job) s.rows w r (λ _. jd)
          (λ i ne l. dark-map σ σ s.colour c (s.rows i).status (s.rows i).job (λ t. t) (λ k. dk i k l ne)
          (λ k. bk i k l ne) (T.jobs i l));
      fresh = λ u n k m. upd_case (λ i q. i < s.M → q.job ≡ creating m n k
          → Fresh σ s.N s.g s.M c s.field rs' i n) s.rows w r
          (λ l e. let F = ow m n k e in fresh_in w n F.0 F.1 (λ ne. absurd (ne refl)))
          (λ i ne l e. let F = T.fresh i n k m l e in let o = ot i n k m l ne e F in fresh_in i n F o.0 (λ _. o.1)) u;
      stale =
          λ q u x f. upd_case (λ i p. i < s.M → p.status ≡ 2 → f < 4 → ¬ OldIs p.job x f (s.field x f)
          → 2 ≤ c (s.field x f)) s.rows w r
          (λ l e b h. st q e x f b h)
          (λ i ne l e b h. sd x f (loose_live C i x f (s.field x f) l h) b (T.stale q i x f l e b h)) u;
      blank = T.blank;
      colours = bd;
    }
