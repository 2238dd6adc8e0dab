-- Protection is closed under fields, and the updates that keep it.
use Rattle.std.specs.Prelude.{◌≡◌, refl, Bool, true, false, ◌≢◌, ◌⊎◌, ℕ, zero, suc, ◌+◌, ◌≤◌, ◌<◌}
use Rattle.std.proofs.Common.{◌∙◌, ap, subst, inl, inr}
use Rattle.std.proofs.Math.Decide.{dec_lt, ℕ_discrete}
use Rattle.moves.specs.Base.{upd}
use Rattle.moves.proofs.Base.{upd_case, all_or, dec→}
use Rattle.moves.specs.Machine.{Stage, rest, ask1, ask2, roots, scan, sweep, Plan, bare, trace, full, Phase, reading}
use Rattle.moves.specs.Machine.{graying_old, graying_new, writing, Job, idle, answering, storing, creating, Row, St}
use Rattle.moves.specs.Writing.{plan_of, first_phase, after_old}
use Rattle.moves.specs.Rows.{job_name, job_tag}
use Rattle.moves.specs.Protection.{Source, Unread, OldAt, OldIs, Solid, GuardIn, dark, source, edge, Guard, RowGuard, Guarded}

-- what is asked of a row, of a weaker property
pub row-map : {Q R : ℕ → Type 0} {r : Row} → ((v : ℕ) → Q v → R v) → RowGuard Q r → RowGuard R r
row-map m h = record {
  slots = λ e k l. m _ (h.slots e k l);
  names = λ e k. m _ (h.names e k);
  answered = λ i k e l b. m _ (h.answered i k e l b);
}

-- whether a field is still to be read is decided
dec_unread : (σ : Stage) (x f : ℕ) → Dec (Unread σ x f)
dec_unread rest x f = yes tt
dec_unread ask1 x f = yes tt
dec_unread ask2 x f = yes tt
dec_unread (roots p) x f = yes tt
dec_unread (scan p k h d) x f = dec→ (ℕ_discrete x p) (dec_lt k (suc (suc (f + f))))
dec_unread (sweep p) x f = yes tt

-- and so is whether a store has the old value v
dec_at : (ph : Phase) (c k o x f v : ℕ) → Dec (OldAt ph c k o x f v)
dec_at reading c k o x f v = yes tt
dec_at graying_old c k o x f v = dec→ (ℕ_discrete c x) (dec→ (ℕ_discrete k f) (ℕ_discrete o v))
dec_at graying_new c k o x f v = dec→ (ℕ_discrete c x) (dec→ (ℕ_discrete k f) (ℕ_discrete o v))
dec_at writing c k o x f v = dec→ (ℕ_discrete c x) (dec→ (ℕ_discrete k f) (ℕ_discrete o v))

-- and whether a job has
dec_old : (j : Job) (x f v : ℕ) → Dec (OldIs j x f v)
dec_old idle x f v = yes tt
dec_old (answering i) x f v = yes tt
dec_old (storing bare ph c k n o) x f v = yes tt
dec_old (storing trace ph c k n o) x f v = dec_at ph c k o x f v
dec_old (storing full ph c k n o) x f v = dec_at ph c k o x f v
dec_old (creating m n i) x f v = yes tt

module _ {σ : Stage} {s : St} (G : Guarded σ s) where
  -- Under protection, what a field of a guarded cell names is guarded: so a read takes nothing unguarded into a slot.
  pub Guard-closed : (x f : ℕ) → Guard σ s x → f < 4 → Guard σ s (s.field x f)
  Guard-closed x f h l =
      go (ℕ_discrete (s.colour x) 3) (dec_unread σ x f)
      (all_or s.M (λ w. OldIs (s.rows w).job x f (s.field x f)) (λ w. dec_old (s.rows w).job x f (s.field x f)))
    where
      go : Dec (s.colour x ≡ 3) → Dec (Unread σ x f)
          → Solid s.M s.rows x f (s.field x f) ⊎ ((w : ℕ) × (w < s.M) × ¬ OldIs (s.rows w).job x f (s.field x f))
          → Guard σ s (s.field x f)
      go (yes e) u o = G.blacks x f e l
      go (no n) (no u) o = G.passed x f l u
      go (no n) (yes u) (inl o) = edge x f h n u o l refl
      go (no n) (yes u) (inr (w, b, o)) = G.loose w x f b l o

module _ (σ : Stage) (s : St) (Q : ℕ → Type 0) (dk : (v : ℕ) → 2 ≤ s.colour v → Q v) (sr : (v : ℕ) → Source σ s.g v → Q v)
    (ed : (x f : ℕ) → Q x → s.colour x ≢ 3 → Unread σ x f → Solid s.M s.rows x f (s.field x f) → f < 4
    → Q (s.field x f)) where
  -- What holds of dark numbers and of sources, and goes along edges, holds of all that is guarded.
  pub Guard-fold : {v : ℕ} → Guard σ s v → Q v
  Guard-fold (dark h) = dk _ h
  Guard-fold (source h) = sr _ h
  Guard-fold (edge x f h n u o l e) = rw e (ed x f (Guard-fold h) n u o l)

-- The colours become c and the rows rs: dark cells stay dark (up), no cell becomes black (back), and solid edges stay solid
-- (old).
module _ (σ : Stage) (s : St) (c : ℕ → ℕ) (rs : ℕ → Row)
    (up : (i : ℕ) → 2 ≤ s.colour i → 2 ≤ c i) (back : (i : ℕ) → c i ≡ 3 → s.colour i ≡ 3)
    (old : (w x f : ℕ) → w < s.M → OldIs (s.rows w).job x f (s.field x f) → OldIs (rs w).job x f (s.field x f)) where
  -- What is guarded stays guarded in a store with colours no lighter, no new black cell and no edge less solid;
  Guard_raise : {v : ℕ} → Guard σ s v → GuardIn σ s.g s.M c s.field rs v
  Guard_raise (dark h) = dark (up _ h)
  Guard_raise (source h) = source h
  Guard_raise (edge x f h n u o l e) = edge x f (Guard_raise h) (λ q. n (back x q)) u (λ w b. old w x f b (o w b)) l e

  -- and so protection stays, if the rows are as asked for.
  pub guarded_raise : Guarded σ s → ((w : ℕ) → w < s.M → RowGuard (GuardIn σ s.g s.M c s.field rs) (rs w)) → (k : ℕ)
      → Guarded σ (record { N = s.N; g = s.g; M = s.M; colour = c; field = s.field; rows = rs; count = k })
  guarded_raise G r k = record {
    rows = r;
    blacks = λ x f e l. Guard_raise (G.blacks x f (back x e) l);
    passed = λ x f l u. Guard_raise (G.passed x f l u);
    loose = λ w x f b l o. Guard_raise (G.loose w x f b l (λ q. o (old w x f b q)));
    pages = λ p l. Guard_raise (G.pages p l);
  }

-- The same where the row of writer w becomes r and the others stay.
module _ {σ : Stage} {s : St} (G : Guarded σ s) (c : ℕ → ℕ) (w : ℕ) (r : Row)
    (up : (i : ℕ) → 2 ≤ s.colour i → 2 ≤ c i) (back : (i : ℕ) → c i ≡ 3 → s.colour i ≡ 3)
    (old : (x f : ℕ) → OldIs (s.rows w).job x f (s.field x f) → OldIs r.job x f (s.field x f)) where
  -- the edges stay solid where one row is put back whose job has read the same old value, or reads it from the field now
  old_row : (u x f : ℕ) → u < s.M → OldIs (s.rows u).job x f (s.field x f)
      → OldIs (upd s.rows w r u).job x f (s.field x f)
  old_row u x f b =
      upd_case (λ i q. OldIs (s.rows i).job x f (s.field x f) → OldIs q.job x f (s.field x f)) s.rows w r (old x f)
      (λ j n h. h) u

  -- One row is put back: what is asked of it is proved for any property that holds of what was guarded and of what is dark
  -- now.
  pub guarded-row : ((Q : ℕ → Type 0) → ((v : ℕ) → Guard σ s v → Q v) → ((v : ℕ) → 2 ≤ c v → Q v) → RowGuard Q r)
      → Guarded σ (record {
        N = s.N;
        g = s.g;
        M = s.M;
        colour = c;
        field = s.field;
        rows = upd s.rows w r;
        count = s.count;
      })
  guarded-row h =
      let Q : ℕ → Type 0 = GuardIn σ s.g s.M c s.field (upd s.rows w r) in
      let m : (v : ℕ) → Guard σ s v → Q v = λ v. Guard_raise σ s c (upd s.rows w r) up back old_row in
      guarded_raise σ s c (upd s.rows w r) up back old_row G
      (upd_case (λ j q. j < s.M → RowGuard Q q) s.rows w r (λ _. h Q m (λ v. dark)) (λ j n l. row-map m (G.rows j l)))
      s.count

-- what a job that a guard tells of carries
pub row-names : {Q : ℕ → Type 0} {r : Row} {j : Job} → RowGuard Q r → r.job ≡ j → r.status ≡ 0 → (k : ℕ) → Q (job_name j k)
row-names {Q} h e z k = subst (λ j. Q (job_name j k)) e (h.names z k)

-- a row whose job is no answer: its slots and what its job carries
pub plain_row : {Q : ℕ → Type 0} (r : Row) → job_tag r.job ≢ 1 → (r.status ≡ 0 → (k : ℕ) → k < 8 → Q (r.slots k))
    → (r.status ≡ 0 → (k : ℕ) → Q (job_name r.job k)) → RowGuard Q r
plain_row r t a b = record { slots = a; names = b; answered = λ i k e l _. absurd (t (ap job_tag e)) }

-- a store's first turn leaves every edge solid: it has read no old value
pub old-start : (st : ℕ) (b : Bool) (c k n o x f v : ℕ) → OldIs (storing (plan_of st b) (first_phase (plan_of st b)) c k n o) x f v
old-start zero true c k n o x f v = tt
old-start zero false c k n o x f v = tt
old-start (suc m) b c k n o x f v = tt

-- so does the reading of the old value: it is what the field holds
pub old-read : (fd : ℕ → ℕ → ℕ) (p : Plan) (c k n x f : ℕ) → OldIs (storing p graying_old c k n (fd c k)) x f (fd x f)
old-read fd bare c k n x f = tt
old-read fd trace c k n x f = λ a b. ap (λ y. fd y k) a ∙ ap (fd x) b
old-read fd full c k n x f = λ a b. ap (λ y. fd y k) a ∙ ap (fd x) b

-- so does the graying of the old value
pub old-after : (p : Plan) (c k n o x f v : ℕ) → OldIs (storing p graying_old c k n o) x f v
    → OldIs (storing p (after_old p) c k n o) x f v
old-after bare c k n o x f v h = tt
old-after trace c k n o x f v h = h
old-after full c k n o x f v h = h

-- so does the graying of the new value
pub old-new : (p : Plan) (c k n o x f v : ℕ) → OldIs (storing p graying_new c k n o) x f v
    → OldIs (storing p writing c k n o) x f v
old-new bare c k n o x f v h = tt
old-new trace c k n o x f v h = h
old-new full c k n o x f v h = h
