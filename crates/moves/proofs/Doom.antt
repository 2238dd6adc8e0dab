-- What becomes of a garbage cell, closing by closing: every move keeps what is known of it, until the sweep frees it.
use Rattle.std.specs.Prelude.{◌≡◌, refl, ◌≢◌, ◌⊎◌, ℕ, zero, suc, ◌+◌, ◌≤◌, ◌<◌}
use Rattle.std.proofs.Common.{sym, ◌∙◌, ap, inl, inr, arith}
use Rattle.std.proofs.Math.Decide.{ℕ_discrete}
use Rattle.moves.specs.Base.{upd, upd2}
use Rattle.moves.proofs.Base.{upd_same, upd_other, upd_case, upd2_case}
use Rattle.moves.specs.Machine.{Stage, rest, ask1, ask2, roots, scan, sweep, St, none, shade}
use Rattle.moves.specs.Writing.{Writing, load, answer_post, answer-start, answer-gray, answer-end, store-start}
use Rattle.moves.specs.Writing.{store-read, store-old, store-new, store-write, take, look, keep, white, written}
use Rattle.moves.specs.Collecting.{swept_to, Collecting, opening, asked1, asked2, root, rooted, skip, opened, again}
use Rattle.moves.specs.Collecting.{scanned, hold, gray-hold, done, swept, closing, next-stage, collected}
use Rattle.moves.specs.Moves.{Move, by-writer, by-collector, stage', after, closings, close}
use Rattle.moves.proofs.Colours.{swept_2}
use Rattle.moves.specs.Invariant.{Inv}
use Rattle.moves.proofs.Invariant.{no-gray}
use Rattle.moves.specs.Reach.{page, slot, step, Reach}
use Rattle.moves.proofs.Reach.{reach-job}
use Rattle.moves.specs.Doom.{Leads, here, by, NoGray, HoldOut, Unswept, DoomedOnce, Doomed}

-- what is reached leads to what is reached
reach_leads : (s : St) {x y : ℕ} → Reach s y → Leads s.field x y → Reach s x
reach_leads s h (here e) = rw (← e) h
reach_leads s {x} {y} h (by f l k) = reach_leads s (step y f h l refl) k

-- the stage stays, x keeps its colour, and nothing leads to x that did not
doomed-keep : (a : ℕ) (σ : Stage) (c c' : ℕ → ℕ) (fd fd' : ℕ → ℕ → ℕ) (x : ℕ) → c' x ≡ c x → (NoGray c fd x → NoGray c' fd' x)
    → ((y : ℕ) → Leads fd' x y → Leads fd x y)
    → Doomed a σ c fd x → Doomed a σ c' fd' x
doomed-keep zero σ c c' fd fd' x e n l d = tt
doomed-keep (suc zero) rest c c' fd fd' x e n l d = tt
doomed-keep (suc zero) ask1 c c' fd fd' x e n l d = tt
doomed-keep (suc zero) ask2 c c' fd fd' x e n l d = tt
doomed-keep (suc zero) (roots p) c c' fd fd' x e n l d = tt
doomed-keep (suc zero) (scan p k h f) c c' fd fd' x e n l d = tt
doomed-keep (suc zero) (sweep p) c c' fd fd' x e n l d = rw e (n d.0, d.1)
doomed-keep (suc (suc zero)) σ c c' fd fd' x e n l d = (n d.0, hold_keep σ d.1, e ∙ d.2, d.3)
  where
    hold_keep : (σ : Stage) → HoldOut σ fd x → HoldOut σ fd' x
    hold_keep rest h = tt
    hold_keep ask1 h = tt
    hold_keep ask2 h = tt
    hold_keep (roots p) h = tt
    hold_keep (scan p k q f) h = λ y. h (l q y)
    hold_keep (sweep p) h = tt
doomed-keep (suc (suc (suc a))) σ c c' fd fd' x e n l d = d

-- a number that is reached is grayed
gray-keep : (a : ℕ) (σ : Stage) (s : St) (x v : ℕ) → ¬ Reach s x → Reach s v → Doomed a σ s.colour s.field x
    → Doomed a σ (upd s.colour v (shade (s.colour v))) s.field x
gray-keep a σ s x v g r = doomed-keep a σ s.colour _ s.field s.field x
    (upd_other s.colour v x _ (λ e. g (rw e r)))
    (λ n. upd_case (λ y q. q ≡ 2 → ¬ Leads s.field x y) s.colour v _ (λ _ h. g (reach_leads s r h)) (λ y _. n y))
    (λ y h. h)

-- the write: a way through the written field begins at a number that is reached, so it does not lead to x
leads_write : (s : St) (c f v x : ℕ) → Reach s v → ¬ Reach s x → (y : ℕ) → Leads (upd2 s.field c f v) x y
    → Leads s.field x y
leads_write s c f v x r g y (here e) = here e
leads_write s c f v x r g y (by k l h) =
    upd2_case (λ y k q. k < 4 → Leads s.field x q → Leads s.field x y) s.field c f v
    (λ _ h. absurd (g (reach_leads s r h))) (λ y k l h. by k l h) y k l
    (leads_write s c f v x r g _ h)

-- none leads to no cell
none_leads : (fd : ℕ → ℕ → ℕ) (x : ℕ) → ((f : ℕ) → f < 4 → fd none f ≡ none) → x ≢ none → (y : ℕ) → y ≡ none → ¬ Leads fd x y
none_leads fd x b n y e (here q) = n (sym q ∙ e)
none_leads fd x b n y e (by f l h) = none_leads fd x b n (fd y f) (ap (λ y. fd y f) e ∙ b f l) h

-- the fields of the cell that is taken lead nowhere
leads_take : (fd : ℕ → ℕ → ℕ) (n x : ℕ) → ((f : ℕ) → f < 4 → fd none f ≡ none) → x ≢ none → (y : ℕ)
    → Leads (upd fd n (λ f. none)) x y → Leads fd x y
leads_take fd n x b ne y (here e) = here e
leads_take fd n x b ne y (by k l h) =
    upd_case (λ y r. Leads fd x (r k) → Leads fd x y) fd n (λ f. none) (λ h. absurd (none_leads fd x b ne none refl h))
    (λ y m h. by k l h) y (leads_take fd n x b ne _ h)

module _ {x : ℕ} where
  -- the closing
  doomed-closing : (a N : ℕ) (c : ℕ → ℕ) (fd : ℕ → ℕ → ℕ) → x < N → Doomed a (sweep N) c fd x → Doomed (suc a) rest c fd x
  doomed-closing zero N c fd l d = tt
  doomed-closing (suc zero) N c fd l d = (d.0, tt, white1 d.1, tt)
    where
      white1 : (c x ≡ 1) ⊎ ((N ≤ x) × (c x ≡ 3)) → c x ≡ 1
      white1 (inl e) = e
      white1 (inr e) = absurd (omega (arith, e.0))
  doomed-closing (suc (suc zero)) N c fd l d = absurd (omega (arith, d.3))
  doomed-closing (suc (suc (suc a))) N c fd l d = d

  -- the collector's moves that change no colour and leave the sweep's place
  doomed-stage : (a : ℕ) (σ σ' : Stage) (c : ℕ → ℕ) (fd : ℕ → ℕ → ℕ) → (DoomedOnce σ c fd x → DoomedOnce σ' c fd x)
      → (NoGray c fd x → HoldOut σ fd x → HoldOut σ' fd x) → (c x ≡ 1 → Unswept σ x → Unswept σ' x)
      → Doomed a σ c fd x → Doomed a σ' c fd x
  doomed-stage zero σ σ' c fd d1 h p d = tt
  doomed-stage (suc zero) σ σ' c fd d1 h p d = d1 d
  doomed-stage (suc (suc zero)) σ σ' c fd d1 h p d = (d.0, h d.0 d.1, d.2, p d.2 d.3)
  doomed-stage (suc (suc (suc a))) σ σ' c fd d1 h p d = d

module _ (x : ℕ) where
  -- the scan's end: no cell is gray
  doomed-scanned : (a : ℕ) {s : St} → Inv (scan s.N 0 none 0) s → s.colour x ≢ 0
      → Doomed a (scan s.N 0 none 0) s.colour s.field x → Doomed a (sweep 0) s.colour s.field x
  doomed-scanned zero I u d = tt
  doomed-scanned (suc zero) {s} I u d =
      (λ y e _. no-gray I refl y e, go (ℕ_discrete (s.colour x) 1) (ℕ_discrete (s.colour x) 2))
    where
      go : Dec (s.colour x ≡ 1) → Dec (s.colour x ≡ 2) → (s.colour x ≡ 1) ⊎ ((0 ≤ x) × (s.colour x ≡ 3))
      go (yes e) _ = inl e
      go (no n) (yes e) = absurd (no-gray I refl x e)
      go (no n) (no n') = inr (omega arith, omega (arith, I.tidy.colours x))
  doomed-scanned (suc (suc zero)) I u d = (d.0, tt, d.2, omega arith)
  doomed-scanned (suc (suc (suc a))) I u d = d

  -- the hold is grayed: it does not lead to x
  doomed-gray-hold : (a p k k' h f : ℕ) (c : ℕ → ℕ) (fd : ℕ → ℕ → ℕ) → ¬ Leads fd x none → Doomed a (scan p k h f) c fd x
      → Doomed a (scan p k' none f) (upd c h (shade (c h))) fd x
  doomed-gray-hold zero p k k' h f c fd o d = tt
  doomed-gray-hold (suc zero) p k k' h f c fd o d = tt
  doomed-gray-hold (suc (suc zero)) p k k' h f c fd o d = (
    upd_case (λ y q. q ≡ 2 → ¬ Leads fd x y) c h _ (λ _. d.1) (λ y _. d.0 y),
    o,
    upd_other c h x _ (λ e. d.1 (here (sym e))) ∙ d.2,
    tt,
  )
  doomed-gray-hold (suc (suc (suc a))) p k k' h f c fd o d = d

  -- part 9: the open cell becomes black; it was gray, so it is not x
  doomed-done : (a p f : ℕ) (c : ℕ → ℕ) (fd : ℕ → ℕ → ℕ) → c p ≡ 2 → Doomed a (scan p 9 none f) c fd x
      → Doomed a (scan (p + 1) 0 none f) (upd c p 3) fd x
  doomed-done zero p f c fd e d = tt
  doomed-done (suc zero) p f c fd e d = tt
  doomed-done (suc (suc zero)) p f c fd e d = (
    upd_case (λ y q. q ≡ 2 → ¬ Leads fd x y) c p 3 (λ q. absurd (omega arith)) (λ y _. d.0 y),
    d.1,
    upd_other c p x 3 (λ q. omega (arith, ap c q, d.2)) ∙ d.2,
    tt,
  )
  doomed-done (suc (suc (suc a))) p f c fd e d = d

  -- the sweep makes no cell gray
  swept_none : (c : ℕ → ℕ) (fd : ℕ → ℕ → ℕ) (p : ℕ) → NoGray c fd x → NoGray (upd c p (swept_to (c p))) fd x
  swept_none c fd p n = upd_case (λ y q. q ≡ 2 → ¬ Leads fd x y) c p _ (λ e. n p (swept_2 (c p) e)) (λ y _. n y)

  -- the sweep on one cell: x, if black, becomes white, and if white becomes free
  doomed-swept : (a p : ℕ) (c : ℕ → ℕ) (fd : ℕ → ℕ → ℕ) → upd c p (swept_to (c p)) x ≢ 0 → Doomed a (sweep p) c fd x
      → Doomed a (sweep (p + 1)) (upd c p (swept_to (c p))) fd x
  doomed-swept zero p c fd u d = tt
  doomed-swept (suc zero) p c fd u d = (swept_none c fd p d.0, go d.1 (ℕ_discrete x p))
    where
      go : (c x ≡ 1) ⊎ ((p ≤ x) × (c x ≡ 3)) → Dec (x ≡ p)
          → (upd c p (swept_to (c p)) x ≡ 1) ⊎ ((p + 1 ≤ x) × (upd c p (swept_to (c p)) x ≡ 3))
      go (inl e) (yes q) = absurd (u (rw (← q, upd_same, e)))
      go (inr e) (yes q) = inl (rw (← q, upd_same, e.1))
      go (inl e) (no n) = inl (upd_other c p x _ n ∙ e)
      go (inr e) (no n) = inr (omega (arith, e.0), upd_other c p x _ n ∙ e.1)
  doomed-swept (suc (suc zero)) p c fd u d = (swept_none c fd p d.0, tt, (go (ℕ_discrete x p)).0, (go (ℕ_discrete x p)).1)
    where
      go : Dec (x ≡ p) → (upd c p (swept_to (c p)) x ≡ 1) × (p + 1 ≤ x)
      go (yes q) = absurd (u (rw (← q, upd_same, d.2)))
      go (no n) = (upd_other c p x _ n ∙ d.2, omega (arith, d.3))
  doomed-swept (suc (suc (suc a))) p c fd u d = d

  -- a move of a writer keeps what is known of x
  doomed-writing : {s : St} {σ : Stage} (a : ℕ) → Inv σ s → x < s.N → ¬ Reach s x → s.colour x ≢ 0 → (m : Writing s σ)
      → Doomed a σ s.colour s.field x → Doomed a σ (written m).colour (written m).field x
  doomed-writing a I b g u (load w k v l e d) D = D
  doomed-writing a I b g u (answer_post w l e d) D = D
  doomed-writing a I b g u (answer-start w l e d z) D = D
  doomed-writing {s} {σ} a I b g u (answer-gray w k l e d) D = gray-keep a σ s x _ g (slot w k l d refl) D
  doomed-writing a I b g u (answer-end w l e) D = D
  doomed-writing a I b g u (store-start w r f q l e d) D = D
  doomed-writing a I b g u (store-read w p c f v o l e d) D = D
  doomed-writing {s} {σ} a I b g u (store-old w p c f v o l e) D = gray-keep a σ s x o g (reach-job s w l e 2) D
  doomed-writing {s} {σ} a I b g u (store-new w p c f v o l e) D = gray-keep a σ s x v g (reach-job s w l e 1) D
  doomed-writing {s} {σ} a I b g u (store-write w p c f v o l e d) D =
      let k = leads_write s c f v x (reach-job s w l e 1) g in
      doomed-keep a σ s.colour s.colour s.field _ x refl (λ n y q h. n y q (k y h)) k D
  doomed-writing {s} {σ} a I b g u (take w k n l e z z') D =
      let t = leads_take s.field n x (λ f l. I.tidy.blank none f (omega (arith, I.closed.room)) l)
      (omega (arith, I.closed.room)) in
      doomed-keep a σ s.colour _ s.field _ x (upd_other s.colour n x 3 (λ q. u (ap s.colour q ∙ z')))
      (λ q. upd_case (λ y i. i ≡ 2 → ¬ Leads (upd s.field n (λ f. none)) x y) s.colour n 3 (λ i. absurd (omega arith))
      (λ y _ i h. q y i (t y h))) t D
  doomed-writing a I b g u (look w k n l e) D = D
  doomed-writing a I b g u (keep w k n l e) D = D
  doomed-writing {s} {σ} a I b g u (white w k n l e) D =
      doomed-keep a σ s.colour _ s.field s.field x (upd_other s.colour n x 1 (λ q. g (rw q (reach-job s w l e 0))))
      (λ q. upd_case (λ y i. i ≡ 2 → ¬ Leads s.field x y) s.colour n 1 (λ i. absurd (omega arith)) (λ y _. q y))
      (λ y h. h) D

  -- so does a move of the collector, unless it frees x
  doomed-collecting : {s : St} {σ : Stage} (a : ℕ) → Inv σ s → x < s.N → ¬ Reach s x → s.colour x ≢ 0 → (m : Collecting s σ)
      → (collected m).colour x ≢ 0
      → Doomed a σ s.colour s.field x → Doomed (closings m a) (next-stage m) (collected m).colour (collected m).field x
  doomed-collecting {s} a I b g u opening u' D =
      doomed-stage a rest ask1 s.colour s.field (λ _. tt) (λ _ _. tt) (λ _ _. tt) D
  doomed-collecting {s} a I b g u (asked1 q) u' D =
      doomed-stage a ask1 ask2 s.colour s.field (λ _. tt) (λ _ _. tt) (λ _ _. tt) D
  doomed-collecting {s} a I b g u (asked2 q) u' D =
      doomed-stage a ask2 (roots 0) s.colour s.field (λ _. tt) (λ _ _. tt) (λ _ _. tt) D
  doomed-collecting {s} a I b g u (root p l) u' D =
      doomed-stage a (roots p) (roots (p + 1)) _ s.field (λ _. tt) (λ _ _. tt) (λ _ _. tt)
      (gray-keep a (roots p) s x p g (page l) D)
  doomed-collecting {s} a I b g u (rooted q) u' D =
      doomed-stage a (roots s.g) (scan 0 0 none 0) s.colour s.field (λ _. tt)
      (λ _ _. none_leads s.field x (λ f l. I.tidy.blank none f (omega (arith, I.closed.room)) l)
      (omega (arith, I.closed.room)) none refl) (λ _ _. tt) D
  doomed-collecting {s} a I b g u (skip p f l n) u' D =
      doomed-stage a (scan p 0 none f) (scan (p + 1) 0 none f) s.colour s.field (λ _. tt) (λ _ h. h) (λ _ _. tt) D
  doomed-collecting {s} a I b g u (opened p f l e) u' D =
      doomed-stage a (scan p 0 none f) (scan p 1 none 1) s.colour s.field (λ _. tt) (λ _ h. h) (λ _ _. tt) D
  doomed-collecting {s} a I b g u again u' D =
      doomed-stage a (scan s.N 0 none 1) (scan 0 0 none 0) s.colour s.field (λ _. tt) (λ _ h. h) (λ _ _. tt) D
  doomed-collecting a I b g u scanned u' D = doomed-scanned a I u D
  doomed-collecting {s} a I b g u (hold p k f l) u' D =
      doomed-stage a (scan p (suc (k + k)) none f) (scan p (suc (suc (k + k))) (s.field p k) f) s.colour s.field
      (λ _. tt)
      (λ n _ h. n p I.closed.open.0 (by k l h)) (λ _ _. tt) D
  doomed-collecting {s} a I b g u (gray-hold p k h f l) u' D =
      doomed-gray-hold a p (suc (suc (k + k))) (suc (suc (suc (k + k)))) h f s.colour s.field
      (none_leads s.field x (λ f l. I.tidy.blank none f (omega (arith, I.closed.room)) l)
      (omega (arith, I.closed.room)) none refl) D
  doomed-collecting {s} a I b g u (done p f l) u' D = doomed-done a p f s.colour s.field I.closed.open.0 D
  doomed-collecting {s} a I b g u (swept p l) u' D = doomed-swept a p s.colour s.field u' D
  doomed-collecting {s} a I b g u closing u' D = doomed-closing a s.N s.colour s.field b D

  -- so does every move
  pub doomed : {s : St} {σ : Stage} (a : ℕ) → Inv σ s → x < s.N → ¬ Reach s x → s.colour x ≢ 0 → (m : Move s σ)
      → (after m).colour x ≢ 0
      → Doomed a σ s.colour s.field x → Doomed (close m a) (stage' m) (after m).colour (after m).field x
  doomed a I b g u (by-writer m) u' D = doomed-writing a I b g u m D
  doomed a I b g u (by-collector m) u' D = doomed-collecting a I b g u m u' D
