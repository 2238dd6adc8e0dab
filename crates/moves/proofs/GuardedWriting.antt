-- Protection under the writers' moves. The write is the heart: it is the one turn that takes an edge of a cell in use away.
use Rattle.std.specs.Prelude.{◌≡◌, ◌≢◌, ℕ, zero, suc, ◌+◌, ◌≤◌, ◌<◌}
use Rattle.std.proofs.Common.{sym, ◌∙◌, ap, subst, arith}
use Rattle.std.proofs.Math.Decide.{ℕ_discrete}
use Rattle.moves.specs.Base.{upd}
use Rattle.moves.proofs.Base.{upd_same, upd_other, upd_case, upd2_case, upd2-same, upd2_other}
use Rattle.moves.specs.Machine.{Stage, rest, ask1, ask2, roots, scan, sweep, Plan, bare, trace, full, reading}
use Rattle.moves.specs.Machine.{graying_old, graying_new, writing, Made, taken, kept, whiten, idle, answering, storing}
use Rattle.moves.specs.Machine.{creating, Row, St, none, tracing, shade, set_colour, gray, set_field, clear, set_row}
use Rattle.moves.specs.Machine.{with_slot, set_job}
use Rattle.moves.specs.Writing.{Known, page, copy, drop, read, plan_of, first_phase, after_old}
use Rattle.moves.specs.Rows.{job_tag, job_at}
use Rattle.moves.proofs.Rows.{three-names, slots_in_lem}
use Rattle.moves.proofs.Colours.{gray_up, gray_back, gray-dark}
use Rattle.moves.specs.Closure.{MayWhiten, Closed}
use Rattle.moves.proofs.Closure.{live_used, none-dark}
use Rattle.moves.specs.Protection.{Tracing, Source, OldIs, dark, source, edge, Guard, RowGuard, Guarded}
use Rattle.moves.proofs.Protection.{row-map, Guard-closed, Guard-fold, guarded-row, row-names, plain_row, old-start}
use Rattle.moves.proofs.Protection.{old-read, old-after, old-new}
use Rattle.moves.specs.Tidiness.{FreshIn, Tidy}
use Rattle.moves.proofs.Tidiness.{loose_live}
use Rattle.moves.specs.GuardedWriting.{NotBare}

-- what a turn may put into a slot is guarded
known_Guard : {σ : Stage} {s : St} → Closed σ s → Guarded σ s → (r : Row) (v : ℕ) → ((k : ℕ) → k < 8 → Guard σ s (r.slots k))
    → Known s r v → Guard σ s v
known_Guard c G r v h (page l) = G.pages _ l
known_Guard c G r v h (copy k b) = h k b
known_Guard c G r v h drop = dark (none-dark c)
known_Guard c G r v h (read k f b l) = Guard-closed G _ f (h k b) l

-- what a slot names is in use
slot-used : {σ : Stage} {s : St} → Closed σ s → (w k : ℕ) → w < s.M → k < 8 → 1 ≤ s.colour ((s.rows w).slots k)
slot-used {σ} {s} C w k a b = live_used σ s.colour _ ((C.rows w a).slots k b)

-- the turns of writer w that change its row, and gray a number or none
module _ {σ : Stage} {s : St} (C : Closed σ s) (G : Guarded σ s) (w : ℕ) (a : w < s.M) where
  -- page, copy, drop, read
  pub guarded-load : (k v : ℕ) → (s.rows w).job ≡ idle → Known s (s.rows w) v
      → Guarded σ (set_row s w (with_slot (s.rows w) k v))
  guarded-load k v e kn =
      guarded-row G s.colour w _ (λ i h. h) (λ i h. h) (λ x f h. h) (λ Q m d. plain_row _ (omega (arith, ap job_tag e))
      (λ z. slots_in_lem Q (s.rows w).slots k v (m v (known_Guard C G (s.rows w) v ((G.rows w a).slots z) kn))
      (λ j b. m _ ((G.rows w a).slots z j b)))
      (λ z j. m _ ((G.rows w a).names z j)))

  -- the start of an answer
  pub guarded-start : Guarded σ (set_job s w (answering 0))
  guarded-start = guarded-row G s.colour w _ (λ i h. h) (λ i h. h) (λ x f h. tt) (λ Q m d. record {
    slots = λ z k b. m _ ((G.rows w a).slots z k b);
    names = λ z k. d none (none-dark C);
    answered = λ i k q l _. absurd (omega (arith, ap job_at q));
  })

  -- an answer grays slot k
  pub guarded-answer : (k : ℕ) → (s.rows w).job ≡ answering k → k < 8
      → Guarded σ (set_job (gray s ((s.rows w).slots k)) w (answering (k + 1)))
  guarded-answer k e l = guarded-row G _ w _ (gray_up s.colour v) (gray_back s.colour v) (λ x f h. tt) (λ Q m d. record {
    slots = λ z k b. m _ ((G.rows w a).slots z k b);
    names = λ z k. d none (gray_up s.colour v none (none-dark C));
    answered = λ i j q b b'. last Q m d i j q b b' (ℕ_discrete j k);
  })
    where
      v : ℕ
      v = (s.rows w).slots k

      last : (Q : ℕ → Type 0) → ((v : ℕ) → Guard σ s v → Q v) → ((u : ℕ) → 2 ≤ upd s.colour v (shade (s.colour v)) u → Q u)
          → (i j : ℕ) → answering (k + 1) ≡ answering i → j < i → j < 8 → Dec (j ≡ k) → Q ((s.rows w).slots j)
      last Q m d i j q b b' (yes p) = rw p (d v (gray-dark s.colour v (slot-used C w k a l)))
      last Q m d i j q b b' (no p) = m _ ((G.rows w a).answered k j e (omega (arith, ap job_at q)) b')

  -- an answer's last turn: all slots are grayed, and now asked for
  pub guarded-end : (s.rows w).job ≡ answering 8
      → Guarded σ (set_row s w (record { status = 0; slots = (s.rows w).slots; job = idle }))
  guarded-end e = guarded-row G s.colour w _ (λ i h. h) (λ i h. h) (λ x f h. tt) (λ Q m d. plain_row _ (omega arith)
      (λ z k b. m _ ((G.rows w a).answered 8 k e b b)) (λ z k. d none (none-dark C)))

  -- a store's first turn
  pub guarded-store : (x f y : ℕ) → x < 8 → y < 8
      → Guarded σ (set_job s w (storing (plan_of (s.rows w).status (tracing σ))
      (first_phase (plan_of (s.rows w).status (tracing σ))) ((s.rows w).slots x) f ((s.rows w).slots y) none))
  guarded-store x f y b b' =
      guarded-row G s.colour w _ (λ i h. h) (λ i h. h)
      (λ u k h. old-start (s.rows w).status (tracing σ) ((s.rows w).slots x) f ((s.rows w).slots y) none u k (s.field u k))
      (λ Q m d. plain_row _ (omega arith)
      (λ z k l. m _ ((G.rows w a).slots z k l))
      (λ z. three-names Q (plan_of (s.rows w).status (tracing σ))
      (first_phase (plan_of (s.rows w).status (tracing σ))) _ f _ none
      (m _ ((G.rows w a).slots z x b)) (m _ ((G.rows w a).slots z y b')) (d none (none-dark C))))

  -- the old value is read
  pub guarded-read : (p : Plan) (c f v o : ℕ) → (s.rows w).job ≡ storing p reading c f v o → f < 4
      → Guarded σ (set_job s w (storing p graying_old c f v (s.field c f)))
  guarded-read p c f v o e l =
      guarded-row G s.colour w _ (λ i h. h) (λ i h. h) (λ x k h. old-read s.field p c f v x k)
      (λ Q m d. plain_row _ (omega arith)
      (λ z k l. m _ ((G.rows w a).slots z k l))
      (λ z. let n = row-names (G.rows w a) e z in three-names Q p graying_old c f v _ (m _ (n 0)) (m _ (n 1))
      (m _ (Guard-closed G c f (n 0) l))))

  -- the old value is grayed
  pub guarded-old : (p : Plan) (c f v o : ℕ) → (s.rows w).job ≡ storing p graying_old c f v o
      → Guarded σ (set_job (gray s o) w (storing p (after_old p) c f v o))
  guarded-old p c f v o e = guarded-row G _ w _ (gray_up s.colour o) (gray_back s.colour o)
      (λ x k h. old-after p c f v o x k _ (subst (λ j. OldIs j x k (s.field x k)) e h)) (λ Q m d. plain_row _ (omega arith)
      (λ z k l. m _ ((G.rows w a).slots z k l))
      (λ z. let n = row-names (G.rows w a) e z in three-names Q p (after_old p) c f v o (m _ (n 0)) (m _ (n 1)) (m _ (n 2))))

  -- the new value is grayed
  pub guarded-new : (p : Plan) (c f v o : ℕ) → (s.rows w).job ≡ storing p graying_new c f v o
      → Guarded σ (set_job (gray s v) w (storing p writing c f v o))
  guarded-new p c f v o e = guarded-row G _ w _ (gray_up s.colour v) (gray_back s.colour v)
      (λ x k h. old-new p c f v o x k _ (subst (λ j. OldIs j x k (s.field x k)) e h)) (λ Q m d. plain_row _ (omega arith)
      (λ z k l. m _ ((G.rows w a).slots z k l))
      (λ z. let n = row-names (G.rows w a) e z in three-names Q p writing c f v o (m _ (n 0)) (m _ (n 1)) (m _ (n 2))))

  -- a creation's look
  pub guarded-look : (t t' : Made) (n k : ℕ) → (s.rows w).job ≡ creating t n k → Guarded σ (set_job s w (creating t' n k))
  guarded-look t t' n k e =
      guarded-row G s.colour w _ (λ i h. h) (λ i h. h) (λ x f h. tt) (λ Q m d. plain_row _ (omega arith)
      (λ z k l. m _ ((G.rows w a).slots z k l)) (λ z j. m _ (row-names (G.rows w a) e z 0)))

  -- a creation's finish, its cell kept
  pub guarded-keep : (n k : ℕ) → (s.rows w).job ≡ creating kept n k
      → Guarded σ (set_row s w (record { status = (s.rows w).status; slots = upd (s.rows w).slots k n; job = idle }))
  guarded-keep n k e = guarded-row G s.colour w _ (λ i h. h) (λ i h. h) (λ x f h. tt) (λ Q m d. plain_row _ (omega arith)
      (λ z. slots_in_lem Q (s.rows w).slots k n (m _ (row-names (G.rows w a) e z 0)) (λ j b. m _ ((G.rows w a).slots z j b)))
      (λ z j. d none (none-dark C)))

-- at its writing a solid store has the value that the field holds
old_of : (p : Plan) → NotBare p → (c f v o x k u : ℕ) → OldIs (storing p writing c f v o) x k u → c ≡ x → f ≡ k → o ≡ u
old_of bare b c f v o x k u h = absurd b
old_of trace b c f v o x k u h = h
old_of full b c f v o x k u h = h

-- The write of writer w. Its store is not bare, and its old value is dark.
module _ {σ : Stage} {s : St} (C : Closed σ s) (G : Guarded σ s) (w : ℕ) (a : w < s.M) (p : Plan) (c f v o : ℕ)
    (e : (s.rows w).job ≡ storing p writing c f v o) (nb : NotBare p) (od : 2 ≤ s.colour o) where
  -- the store after the write
  abbrev pub write-to : St
  write-to = set_job (set_field s c f v) w idle

  -- an edge other than the written one stays solid
  old-write : (u x k : ℕ) → u < s.M → (x ≡ c → k ≡ f → ⊥) → OldIs (s.rows u).job x k (s.field x k)
      → OldIs (write-to.rows u).job x k (write-to.field x k)
  old-write u x k b ne = rw (upd2_other s.field c f x k v ne)
      (upd_case (λ i q. OldIs (s.rows i).job x k (s.field x k) → OldIs q.job x k (s.field x k)) s.rows w _ (λ _. tt)
      (λ j n h. h) u)

  -- What is guarded stays guarded: a path through the written field goes to the old value, and this store has grayed that.
  Guard-write : {u : ℕ} → Guard σ s u → Guard σ write-to u
  Guard-write (dark h) = dark h
  Guard-write (source h) = source h
  Guard-write (edge {v = u} x k h n un so lk q) = go (Guard-write h) (ℕ_discrete x c) (ℕ_discrete k f)
    where
      apart : (x ≡ c → k ≡ f → ⊥) → Guard σ write-to x → Guard σ write-to u
      apart ne h' = edge x k h' n un (λ y b. old-write y x k b ne (so y b)) lk (q ∙ sym (upd2_other s.field c f x k v ne))

      go : Guard σ write-to x → Dec (x ≡ c) → Dec (k ≡ f) → Guard σ write-to u
      go h' (no ne) d = apart (λ y z. ne y) h'
      go h' (yes y) (no ne) = apart (λ y z. ne z) h'
      go h' (yes y) (yes z) =
          dark {v = u}
          (rw (q ∙ sym (old_of p nb c f v o x k _ (subst (λ j. OldIs j x k (s.field x k)) e (so w a)) (sym y) (sym z))) od)

  module _ (pv : Guard σ s v) where
    -- what a field names, if it was guarded: the new value is
    Guard-field : (x k : ℕ) → (Guard σ s (s.field x k)) → Guard σ write-to (write-to.field x k)
    Guard-field =
        upd2_case (λ x k y. Guard σ s (s.field x k) → Guard σ write-to y) s.field c f v (λ _. Guard-write pv)
        (λ x k h. Guard-write h)

    -- The write. Both are needed: the old value is dark, and the new one guarded.
    pub guarded-write : Guarded σ write-to
    guarded-write = record {
      rows = upd_case (λ j q. j < s.M → RowGuard (Guard σ write-to) q) s.rows w _
          (λ _. plain_row _ (omega arith) (λ z k b. Guard-write ((G.rows w a).slots z k b)) (λ z k. dark (none-dark C)))
          (λ j n b. row-map (λ u. Guard-write) (G.rows j b));
      blacks = λ x k q b. Guard-field x k (G.blacks x k q b);
      passed = λ x k b u. Guard-field x k (G.passed x k b u);
      loose = λ u x k b d h. loose-write u x k b d h (ℕ_discrete x c) (ℕ_discrete k f);
      pages = λ y b. Guard-write (G.pages y b);
    }
      where
        apart : (u x k : ℕ) → u < s.M → k < 4 → ¬ OldIs (write-to.rows u).job x k (write-to.field x k) → (x ≡ c → k ≡ f → ⊥)
            → Guard σ write-to (write-to.field x k)
        apart u x k b d h ne = Guard-field x k (G.loose u x k b d (λ y. h (old-write u x k b ne y)))

        loose-write : (u x k : ℕ) → u < s.M → k < 4 → ¬ OldIs (write-to.rows u).job x k (write-to.field x k) → Dec (x ≡ c)
            → Dec (k ≡ f) → Guard σ write-to (write-to.field x k)
        loose-write u x k b d h (no ne) _ = apart u x k b d h (λ y z. ne y)
        loose-write u x k b d h (yes y) (no ne) = apart u x k b d h (λ y z. ne z)
        loose-write u x k b d h (yes y) (yes z) = rw (y, z, upd2-same s.field c f v) (Guard-write pv)

-- a free cell is taken while tracing
module _ {σ : Stage} {s : St} (C : Closed σ s) (G : Guarded σ s) (tr : Tracing σ) where
  -- where the collector will come there is a cell in use
  source_live : (σ : Stage) → Closed σ s → (v : ℕ) → Source σ s.g v → 1 ≤ s.colour v
  source_live rest c v h = absurd h
  source_live ask1 c v h = absurd h
  source_live ask2 c v h = absurd h
  source_live (roots p) c v h = c.pages v h.1
  source_live (scan p zero q f) c v h = rw h c.open
  source_live (scan p (suc k) q f) c v h = rw h c.open.1
  source_live (sweep p) c v h = absurd h

  -- while tracing the fields of cells in use name cells in use
  field_live : (σ : Stage) → Tracing σ → Closed σ s → (x f : ℕ) → 1 ≤ s.colour x → f < 4 → 1 ≤ s.colour (s.field x f)
  field_live rest t c x f h l = absurd t
  field_live ask1 t c x f h l = absurd t
  field_live ask2 t c x f h l = absurd t
  field_live (roots p) t c x f h l = c.fields x f h l
  field_live (scan p k q d) t c x f h l = c.fields x f h l
  field_live (sweep p) t c x f h l = absurd t

  -- what is guarded is in use: so it is not the free cell that is taken
  Guard_live : {v : ℕ} → Guard σ s v → 1 ≤ s.colour v
  Guard_live =
      Guard-fold σ s (λ v. 1 ≤ s.colour v) (λ v h. omega arith) (λ v h. source_live σ C v h)
      (λ x f h n u o b. field_live σ tr C x f h b)

  module _ (w k n : ℕ) (a : w < s.M) (z : s.colour n ≡ 0) where
    -- the store after a take
    abbrev pub taken-to : St
    taken-to = set_job (clear (set_colour s n 3) n) w (creating taken n k)

    -- dark cells stay dark
    c_up : (i : ℕ) → 2 ≤ s.colour i → 2 ≤ taken-to.colour i
    c_up = upd_case (λ i x. 2 ≤ s.colour i → 2 ≤ x) s.colour n 3 (λ _. omega arith) (λ j m h. h)

    -- the fields of other cells stay
    fd_out : (x f : ℕ) → x ≢ n → taken-to.field x f ≡ s.field x f
    fd_out x f m = ap (λ (r : ℕ → ℕ). r f) (upd_other s.field n x (λ f. none) m)

    -- edges stay solid
    old-take : (u x f v : ℕ) → OldIs (s.rows u).job x f v → OldIs (taken-to.rows u).job x f v
    old-take u x f v =
        upd_case (λ i q. OldIs (s.rows i).job x f v → OldIs q.job x f v) s.rows w _ (λ _. tt) (λ j m h. h) u

    -- what is guarded stays guarded
    Guard-take : {v : ℕ} → Guard σ s v → Guard σ taken-to v
    Guard-take (dark h) = dark (c_up _ h)
    Guard-take (source h) = source h
    Guard-take (edge {v = t} x f h m u o l e) = go (Guard-take h) (λ q. omega (arith, Guard_live h, ap s.colour q))
      where
        go : Guard σ taken-to x → x ≢ n → Guard σ taken-to t
        go h' ne =
            edge x f h' (rw (upd_other s.colour n x 3 ne) m) u
            (λ y b. rw (fd_out x f ne) (old-take y x f (s.field x f) (o y b))) l (e ∙ sym (fd_out x f ne))

    -- what a field names, if it was guarded or is none now
    Guard-cleared : (x f : ℕ) → (x ≢ n → Guard σ s (s.field x f)) → Guard σ taken-to (taken-to.field x f)
    Guard-cleared x f =
        upd_case (λ y r. (y ≢ n → Guard σ s (s.field y f)) → Guard σ taken-to (r f)) s.field n (λ f. none)
        (λ _. dark (c_up none (none-dark C))) (λ y m h. Guard-take (h m)) x

    -- a free cell is taken: black, its fields none
    pub guarded-take : Guarded σ taken-to
    guarded-take = record {
      rows = upd_case (λ j q. j < s.M → RowGuard (Guard σ taken-to) q) s.rows w _
          (λ _. plain_row _ (omega arith) (λ z k b. Guard-take ((G.rows w a).slots z k b))
          (λ z j. dark (rw upd_same (omega arith))))
          (λ j m b. row-map (λ v. Guard-take) (G.rows j b));
      blacks = λ x f q b. Guard-cleared x f (λ m. G.blacks x f (rw (upd_other s.colour n x 3 m) at q) b);
      passed = λ x f b u. Guard-cleared x f (λ _. G.passed x f b u);
      loose = λ u x f b d h. Guard-cleared x f (λ m. G.loose u x f b d
          (λ y. h (rw (fd_out x f m) (old-take u x f (s.field x f) y))));
      pages = λ p b. Guard-take (G.pages p b);
    }

-- a creation that has decided white finishes in stage 3: its writer has status 2, and its cell is black
module _ {p : ℕ} {s : St} (C : Closed (roots p) s) (T : Tidy (roots p) s) (G : Guarded (roots p) s) (w k n : ℕ) (a : w < s.M)
    (e : (s.rows w).job ≡ creating whiten n k) (two : (s.rows w).status ≡ 2) (three : s.colour n ≡ 3) where
  -- the new cell is fresh
  fresh-n : FreshIn (roots p) s w n
  fresh-n = T.fresh w n k whiten a e

  -- the store after the finish
  abbrev whitened_to : St
  whitened_to =
      set_row (set_colour s n 1) w (record { status = (s.rows w).status; slots = upd (s.rows w).slots k n; job = idle })

  -- what is guarded, but for the new cell, stays guarded: no path goes through the new cell, which was black
  Guard-white : {u : ℕ} → Guard (roots p) s u → u ≢ n → Guard (roots p) whitened_to u
  Guard-white (dark {v = u} h) ne = dark {v = u} (rw (upd_other s.colour n u 1 ne) h)
  Guard-white (source h) ne = source h
  Guard-white (edge x f h m un so l q) ne =
      let nx : x ≢ n = λ i. m (ap s.colour i ∙ three) in
      edge x f (Guard-white h nx) (rw (upd_other s.colour n x 1 nx) m) un
      (λ u b. upd_case (λ i r. OldIs (s.rows i).job x f (s.field x f) → OldIs r.job x f (s.field x f)) s.rows w _
      (λ _. tt) (λ j m h. h) u (so u b)) l q

  -- In stage 3, with status 2, a creation finishes and its cell becomes white. Nothing but its writer's slot names it, and of
  -- that nothing is asked before the third answer.
  guarded-white : Guarded (roots p) whitened_to
  guarded-white = record {
    rows = upd_case (λ u r. u < s.M → RowGuard (Guard (roots p) whitened_to) r) s.rows w _
        (λ _. plain_row _ (omega arith) (λ z. absurd (omega arith)) (λ z. absurd (omega arith)))
        (λ u ne l. let r = G.rows u l in record {
          slots = λ z k b. Guard-white (r.slots z k b) (fresh-n.slot u k l b);
          names = λ z k. Guard-white (r.names z k) (fresh-n.job u k l ne);
          answered = λ i k q b d. Guard-white (r.answered i k q b d) (fresh-n.slot u k l d);
        });
    blacks =
        λ x f q b. let c3 : s.colour x ≡ 3 = upd_case (λ i y. y ≡ 3 → s.colour i ≡ 3) s.colour n 1
        (λ h. absurd (omega arith)) (λ j m h. h) x q in
        Guard-white (G.blacks x f c3 b) (fresh-n.field x f (omega arith) b);
    passed = λ x f b u. absurd (u tt);
    loose = λ u x f l b. upd_case (λ i r. i < s.M → ¬ OldIs r.job x f (s.field x f)
        → Guard (roots p) whitened_to (s.field x f)) s.rows w _
        (λ _ h. absurd (h tt)) (λ i ne l h. Guard-white (G.loose i x f l b h)
        (fresh-n.field x f (loose_live C i x f (s.field x f) l h) b)) u l;
    pages = λ q l. Guard-white (G.pages q l) (omega (arith, fresh-n.page));
  }

-- In every tracing stage: in stage 4 no creation has decided white.
pub guarded_whitened : (σ : Stage) (s : St) → Tracing σ → Closed σ s → Tidy σ s → Guarded σ s → (w k n : ℕ) → w < s.M
    → (s.rows w).job ≡ creating whiten n k
    → MayWhiten σ (s.rows w).status n → s.colour n ≡ 3
    → Guarded σ (set_row (set_colour s n 1) w (record {
      status = (s.rows w).status;
      slots = upd (s.rows w).slots k n;
      job = idle;
    }))
guarded_whitened rest s t C T G w k n a e m z = absurd t
guarded_whitened ask1 s t C T G w k n a e m z = absurd t
guarded_whitened ask2 s t C T G w k n a e m z = absurd t
guarded_whitened (roots p) s t C T G w k n a e m z = guarded-white C T G w k n a e m z
guarded_whitened (scan p i h f) s t C T G w k n a e m z = absurd m
guarded_whitened (sweep p) s t C T G w k n a e m z = absurd t
