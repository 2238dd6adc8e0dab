-- The colours of a fresh store: all cells free, and then the pages white.
use Rattle.std.specs.Prelude.{◌≡◌, ℕ, ◌-◌, ◌≤◌, List, ◌++◌, length, take, drop, replicate}
use Rattle.std.proofs.Common.{refl, ap, arith}
use Rattle.std.proofs.lemmas.List.{drop-replicate, length-replicate, length-take-le}

pub pages-white : (g n : ℕ) (free white : List ℕ) → g ≤ n → free ≡ replicate n 0 → white ≡ replicate (length (take g free)) 1 → white ++ drop g free ≡ replicate g 1 ++ replicate (n - g) 0
pages-white g n free white h e w =
    let k : length (take g free) ≡ g = length-take-le g free (omega (arith, ap length e, length-replicate {A = ℕ} n 0)) in
    rw (w, k, e, drop-replicate {X = ℕ} g n 0) refl
