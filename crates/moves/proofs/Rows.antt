-- What holds of all that a row names: the numbers that a store's job carries, and the slots after one was set. And a creation's
-- decision by its number.
use Rattle.std.specs.Prelude.{◌≡◌, refl, ℕ, zero, suc, ◌<◌}
use Rattle.std.proofs.Common.{arith}
use Rattle.moves.specs.Base.{upd}
use Rattle.moves.proofs.Base.{upd_case}
use Rattle.moves.specs.Machine.{Plan, Phase, Made, taken, kept, whiten, storing}
use Rattle.moves.specs.Rows.{job_name, made_tag}

-- what holds of a store's cell, new and old value holds of all that it carries
pub three-names : (Q : ℕ → Type 0) (p : Plan) (ph : Phase) (c f v o : ℕ) → Q c → Q v → Q o → (k : ℕ)
    → Q (job_name (storing p ph c f v o) k)
three-names Q p ph c f v o a b d zero = a
three-names Q p ph c f v o a b d (suc zero) = b
three-names Q p ph c f v o a b d (suc (suc k)) = d

-- what holds of v and of all slots holds of all slots after v is put into slot k
pub slots_in_lem : (Q : ℕ → Type 0) (f : ℕ → ℕ) (k v : ℕ) → Q v → ((j : ℕ) → j < 8 → Q (f j)) → (j : ℕ) → j < 8 → Q (upd f k v j)
slots_in_lem Q f k v q h = upd_case (λ j x. j < 8 → Q x) f k v (λ _. q) (λ j n b. h j b)

-- a creation with the number of keep has decided keep
pub made_kept : (m : Made) → made_tag m ≡ 1 → m ≡ kept
made_kept taken e = absurd (omega arith)
made_kept kept e = refl
made_kept whiten e = absurd (omega arith)
