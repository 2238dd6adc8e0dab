-- A black cell below the hand stays one in the making when a row is put back. So where tracing begins no black cell has fields
-- to be followed.
use Rattle.std.specs.Prelude.{◌≡◌, ◌≢◌, ◌⊎◌, ℕ, zero, suc, ◌<◌, ltb}
use Rattle.std.proofs.Common.{ap, inl, inr, arith, lt-ltb}
use Rattle.std.proofs.Math.Decide.{ℕ_discrete}
use Rattle.moves.specs.Base.{upd}
use Rattle.moves.proofs.Base.{upd_same, upd_other}
use Rattle.moves.specs.Machine.{Stage, kept, Job, Row, St, hand}
use Rattle.moves.specs.Writing.{looked}
use Rattle.moves.specs.Rows.{job_tag, made_tag}
use Rattle.moves.specs.Making.{Makes, Blacks}

-- the row of writer w becomes r, and the colours c
module _ (σ : Stage) (s : St) (B : Blacks σ s) (c : ℕ → ℕ) (w : ℕ) (r : Row) (a : w < s.M) where
  -- one row is put back: each black cell was black before or is created by the new row, which goes on creating what it
  -- created
  pub blacks-row : ((x : ℕ) → c x ≡ 3 → (s.colour x ≡ 3) ⊎ Makes r.job x)
      → ((x : ℕ) → x < hand s.N σ → c x ≡ 3 → Makes (s.rows w).job x → Makes r.job x)
      → (x : ℕ) → x < hand s.N σ → c x ≡ 3 → (u : ℕ) × (u < s.M) × Makes (upd s.rows w r u).job x
  blacks-row back cv x l e = one (back x e)
    where
      at_w : Makes r.job x → (u : ℕ) × (u < s.M) × Makes (upd s.rows w r u).job x
      at_w m = (w, a, rw upd_same m)

      two : (u : ℕ) → u < s.M → Makes (s.rows u).job x → Dec (u ≡ w)
          → (u : ℕ) × (u < s.M) × Makes (upd s.rows w r u).job x
      two u b m (yes q) = at_w (cv x l e (rw q at m))
      two u b m (no q) = (u, b, rw (upd_other s.rows w u r q) m)

      one : (s.colour x ≡ 3) ⊎ Makes r.job x → (u : ℕ) × (u < s.M) × Makes (upd s.rows w r u).job x
      one (inr m) = at_w m
      one (inl q) = let k = B x l q in two k.0 k.1 k.2 (ℕ_discrete k.0 w)

-- a job that is no creation creates nothing
pub not_maker : {j : Job} → job_tag j ≢ 3 → {x : ℕ} {X : Type 0} → Makes j x → X
not_maker t m = absurd (t (ap job_tag m.2))

-- below the hand the look does not decide keep
pub looked-hand : (st n h : ℕ) → n < h → looked st (ltb n h) ≢ kept
looked-hand zero n h l = rw (lt-ltb n h l) (λ q. omega (arith, ap made_tag q))
looked-hand (suc st) n h l = λ q. omega (arith, ap made_tag q)
