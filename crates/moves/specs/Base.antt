-- Functions on numbers that differ from another at one place: colours, fields, rows and slots are such functions.
use Rattle.std.specs.Prelude.{◌≡◌}
use Prim.Native.Nat.{ℕ}
use Rattle.std.proofs.Math.Decide.{ℕ_discrete}

module _ {A : Type 0} where
  -- by the decision whether j is i
  unfoldable pub pick : {i j : ℕ} → Dec (j ≡ i) → A → A → A
  pick (yes e) a b = a
  pick (no n) a b = b

  -- f, but a at place i
  unfoldable pub upd : (ℕ → A) → ℕ → A → ℕ → A
  upd f i a j = pick (ℕ_discrete j i) a (f j)

module _ {A : Type 0} where
  -- t, but a at place f of x: one field of one cell
  unfoldable pub upd2 : (ℕ → ℕ → A) → ℕ → ℕ → A → ℕ → ℕ → A
  upd2 t x f a = upd t x (upd (t x) f a)
