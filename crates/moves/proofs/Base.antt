-- What is read in a function that differs from another at one place, and a search below a bound.
use Rattle.std.specs.Prelude.{◌≡◌, ◌≢◌, ◌⊎◌}
use Rattle.std.proofs.Math.Path.{refl, ap, subst}
use Rattle.std.proofs.Common.{sym, ◌∙◌, inl, inr, arith}
use Prim.Native.Nat.{ℕ, zero, suc, ◌<◌}
use Rattle.std.proofs.Math.Decide.{ℕ_discrete}
use Rattle.moves.specs.Base.{pick, upd, upd2}

module _ {A : Type 0} where
  -- an update, read at its place
  pub upd_same : (f : ℕ → A) (i : ℕ) (a : A) → upd f i a i ≡ a
  unfolding upd pick
  upd_same f i a = go (ℕ_discrete i i)
    where
      go : (d : Dec (i ≡ i)) → pick d a (f i) ≡ a
      go (yes e) = refl
      go (no n) = absurd (n refl)

  -- an update, read at another place
  pub upd_other : (f : ℕ → A) (i j : ℕ) (a : A) → j ≢ i → upd f i a j ≡ f j
  unfolding upd pick
  upd_other f i j a h = go (ℕ_discrete j i)
    where
      go : (d : Dec (j ≡ i)) → pick d a (f j) ≡ f j
      go (yes e) = absurd (h e)
      go (no n) = refl

  -- the one way to take an update apart: what holds of the new value at i and of the old one elsewhere holds everywhere
  pub upd_case : (P : ℕ → A → Type 0) (f : ℕ → A) (i : ℕ) (a : A) → P i a → ((j : ℕ) → j ≢ i → P j (f j)) → (j : ℕ)
      → P j (upd f i a j)
  unfolding upd pick
  upd_case P f i a h k j = go (ℕ_discrete j i)
    where
      go : (d : Dec (j ≡ i)) → P j (pick d a (f j))
      go (yes e) = subst (λ x. P x a) (sym e) h
      go (no n) = k j n

module _ {A : Type 0} where
  -- the same for two places: what holds of the new value at (x, f), and of every old one, holds everywhere
  pub upd2_case : (P : ℕ → ℕ → A → Type 0) (t : ℕ → ℕ → A) (x f : ℕ) (a : A) → P x f a → ((y k : ℕ) → P y k (t y k)) → (y k : ℕ)
      → P y k (upd2 t x f a y k)
  unfolding upd2
  upd2_case P t x f a h o =
      upd_case (λ y r. (k : ℕ) → P y k (r k)) t x (upd (t x) f a) (upd_case (λ k r. P x k r) (t x) f a h (λ k n. o x k))
      (λ y n. o y)

  -- a field that was written, read
  pub upd2-same : (t : ℕ → ℕ → A) (x f : ℕ) (a : A) → upd2 t x f a x f ≡ a
  unfolding upd2
  upd2-same t x f a = ap (λ (r : ℕ → A). r f) (upd_same t x (upd (t x) f a)) ∙ upd_same (t x) f a

  -- another field, read
  pub upd2_other : (t : ℕ → ℕ → A) (x f y k : ℕ) (a : A) → (y ≡ x → k ≡ f → ⊥) → upd2 t x f a y k ≡ t y k
  upd2_other t x f y k a h =
      upd2_case (λ y k r. (y ≡ x → k ≡ f → ⊥) → r ≡ t y k) t x f a (λ h. absurd (h refl refl)) (λ y k _. refl) y k h

-- below a bound either all pass or one fails
pub all_or : (M : ℕ) (A : ℕ → Type 0) → ((w : ℕ) → Dec (A w)) → ((w : ℕ) → w < M → A w) ⊎ ((w : ℕ) × (w < M) × ¬ A w)
all_or zero A d = inl (λ w l. absurd (omega arith))
all_or (suc n) A d = go (all_or n A d) (d n)
  where
    go : ((w : ℕ) → w < n → A w) ⊎ ((w : ℕ) × (w < n) × ¬ A w) → Dec (A n)
        → ((w : ℕ) → w < suc n → A w) ⊎ ((w : ℕ) × (w < suc n) × ¬ A w)
    go (inr (w, l, h)) e = inr (w, omega arith, h)
    go (inl h) (no e) = inr (n, omega arith, e)
    go (inl h) (yes e) = inl (λ w l. last w l (ℕ_discrete w n))
      where
        last : (w : ℕ) → w < suc n → Dec (w ≡ n) → A w
        last w l (yes q) = subst A (sym q) e
        last w l (no q) = h w (omega arith)

-- an implication between decided statements is decided
pub dec→ : {A B : Type 0} → Dec A → Dec B → Dec (A → B)
dec→ (no n) d = yes (λ a. absurd (n a))
dec→ (yes a) (yes b) = yes (λ _. b)
dec→ (yes a) (no n) = no (λ h. n (h a))
