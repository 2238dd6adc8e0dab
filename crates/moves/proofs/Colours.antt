-- What graying and sweeping do to a colour, and to the colours of all cells.
use Rattle.std.specs.Prelude.{◌≡◌, refl, ℕ, zero, suc, ◌≤◌}
use Rattle.std.proofs.Common.{◌∙◌, arith}
use Rattle.moves.specs.Base.{upd}
use Rattle.moves.proofs.Base.{upd_same, upd_case}
use Rattle.moves.specs.Machine.{shade}
use Rattle.moves.specs.Collecting.{swept_to}

-- graying makes no colour lighter
pub shade_up : (c : ℕ) → c ≤ shade c
shade_up zero = omega arith
shade_up (suc zero) = omega arith
shade_up (suc (suc n)) = omega arith

-- graying a cell in use makes it dark
shade_in : (c : ℕ) → 1 ≤ c → 2 ≤ shade c
shade_in zero h = omega arith
shade_in (suc zero) h = omega arith
shade_in (suc (suc n)) h = omega arith

-- graying puts no free cell to use
pub shade-out : (c : ℕ) → 1 ≤ shade c → 1 ≤ c
shade-out zero h = omega arith
shade-out (suc zero) h = omega arith
shade-out (suc (suc n)) h = omega arith

-- graying leaves a dark colour
pub shade-dark : (c : ℕ) → 2 ≤ c → shade c ≡ c
shade-dark zero h = omega arith
shade-dark (suc zero) h = omega arith
shade-dark (suc (suc n)) h = refl

-- graying makes nothing black
shade_back : (c : ℕ) → shade c ≡ 3 → c ≡ 3
shade_back zero h = omega arith
shade_back (suc zero) h = omega arith
shade_back (suc (suc n)) h = h

-- graying leaves the range of colours
shade_3 : (c : ℕ) → c ≤ 3 → shade c ≤ 3
shade_3 zero h = omega arith
shade_3 (suc zero) h = omega arith
shade_3 (suc (suc n)) h = h

-- a dark cell stays dark when v is grayed
pub gray_up : (c : ℕ → ℕ) (v i : ℕ) → 2 ≤ c i → 2 ≤ upd c v (shade (c v)) i
gray_up c v = upd_case (λ i x. 2 ≤ c i → 2 ≤ x) c v _ (λ h. omega (arith, shade_up (c v))) (λ j n h. h)

-- a cell that is black after v is grayed was black
pub gray_back : (c : ℕ → ℕ) (v i : ℕ) → upd c v (shade (c v)) i ≡ 3 → c i ≡ 3
gray_back c v = upd_case (λ i x. x ≡ 3 → c i ≡ 3) c v _ (shade_back (c v)) (λ j n h. h)

-- a cell in use is dark once it is grayed
pub gray-dark : (c : ℕ → ℕ) (v : ℕ) → 1 ≤ c v → 2 ≤ upd c v (shade (c v)) v
gray-dark c v h = rw upd_same (shade_in (c v) h)

-- a black cell stays black when v is grayed
pub gray_3 : (c : ℕ → ℕ) (v i : ℕ) → c i ≡ 3 → upd c v (shade (c v)) i ≡ 3
gray_3 c v = upd_case (λ i x. c i ≡ 3 → x ≡ 3) c v _ (λ h. shade-dark (c v) (omega arith) ∙ h) (λ j n h. h)

-- the colours stay in range when v is grayed
pub gray-bound : (c : ℕ → ℕ) (v : ℕ) → ((i : ℕ) → c i ≤ 3) → (i : ℕ) → upd c v (shade (c v)) i ≤ 3
gray-bound c v h = upd_case (λ i x. x ≤ 3) c v _ (shade_3 (c v) (h v)) (λ j n. h j)

-- the sweep leaves in use what was dark, and only that
pub swept_iff : (c : ℕ) → (2 ≤ c → 1 ≤ swept_to c) × (1 ≤ swept_to c → 2 ≤ c)
swept_iff zero = omega arith
swept_iff (suc zero) = omega arith
swept_iff (suc (suc zero)) = omega arith
swept_iff (suc (suc (suc n))) = omega arith

-- the sweep leaves no cell black
pub swept_3 : (c : ℕ) → swept_to c ≤ 2
swept_3 zero = omega arith
swept_3 (suc zero) = omega arith
swept_3 (suc (suc zero)) = omega arith
swept_3 (suc (suc (suc n))) = omega arith

-- a cell that is gray behind the sweep was gray
pub swept_2 : (c : ℕ) → swept_to c ≡ 2 → c ≡ 2
swept_2 zero h = omega arith
swept_2 (suc zero) h = omega arith
swept_2 (suc (suc zero)) h = refl
swept_2 (suc (suc (suc n))) h = absurd (omega arith)
