-- The fate of a garbage cell: fewer than 3 C working turns are made before it is free.
use Rattle.std.specs.Prelude.{◌≡◌, ◌≢◌, ℕ, zero, suc, ◌+◌, ◌*◌, ◌≤◌, ◌<◌}
use Rattle.std.proofs.Common.{arith}
use Rattle.moves.specs.Machine.{Stage, St}
use Rattle.moves.specs.Collecting.{Collecting, opening, asked1, asked2, root, rooted, skip, opened, again, scanned}
use Rattle.moves.specs.Collecting.{hold, gray-hold, done, swept, closing, next-stage, collected}
use Rattle.moves.specs.Moves.{Move, by-writer, by-collector, stage', after, work, closings, close}
use Rattle.moves.proofs.Moves.{writing-leaves, same-N}
use Rattle.moves.proofs.Invariant.{inv}
use Rattle.moves.specs.Run.{IsStart, Run}
use Rattle.moves.proofs.Run.{run-inv}
use Rattle.moves.specs.Reach.{Reach}
use Rattle.moves.proofs.Reach.{garbage}
use Rattle.moves.specs.Bound.{c_max, BoundIn, in_cycle}
use Rattle.moves.proofs.Bound.{bound, run-bound, placed, run-placed, in_cycle-C}
use Rattle.moves.specs.Doom.{Doomed}
use Rattle.moves.proofs.Doom.{doomed}
use Rattle.moves.specs.Fate.{Later, now, turn, Lingering}

-- the closing: C more are allowed for
closing-work : (W a C c : ℕ) → W ≤ a * C + c → c + 1 ≤ C → W + 1 ≤ suc a * C + 0
closing-work W a C c h b = omega arith

-- a move of the collector: W stays within C for each closing and the count of this cycle
worked-collecting : {s : St} {σ : Stage} (W a : ℕ) → BoundIn σ s → W ≤ a * c_max s.N s.g + in_cycle σ s.count
    → (m : Collecting s σ)
    → W + 1 ≤ closings m a * c_max (collected m).N (collected m).g + in_cycle (next-stage m) (collected m).count
worked-collecting W a B h opening = omega arith
worked-collecting W a B h (asked1 l) = omega arith
worked-collecting W a B h (asked2 l) = omega arith
worked-collecting W a B h (root p l) = omega arith
worked-collecting W a B h (rooted l) = omega arith
worked-collecting W a B h (skip p f l n) = omega arith
worked-collecting W a B h (opened p f l e) = omega arith
worked-collecting W a B h again = omega arith
worked-collecting W a B h scanned = omega arith
worked-collecting W a B h (hold p k f l) = omega arith
worked-collecting W a B h (gray-hold p k q f l) = omega arith
worked-collecting W a B h (done p f l) = omega arith
worked-collecting W a B h (swept p l) = omega arith
worked-collecting {s} W a B h closing = closing-work W a (c_max s.N s.g) s.count h (omega arith)

-- and so does every move
worked : {s : St} {σ : Stage} (W a : ℕ) → BoundIn σ s → W ≤ a * c_max s.N s.g + in_cycle σ s.count → (m : Move s σ)
    → W + work m ≤ close m a * c_max (after m).N (after m).g + in_cycle (stage' m) (after m).count
worked W a B h (by-writer m) = let z = writing-leaves m in rw (z.0, z.1, z.2) (omega (arith, h))
worked W a B h (by-collector m) = worked-collecting W a B h m

-- what holds of a garbage cell x (`Lingering`) holds as long as x is not freed
later : {x : ℕ} {σ₀ : Stage} {s₀ : St} → Lingering x 0 0 σ₀ s₀ → {W a : ℕ} {σ : Stage} {s : St} → Later x σ₀ s₀ W a σ s
    → Lingering x W a σ s
later D now = D
later {x} D (turn {W = W} {a = a} {σ = σ} {s = s} r m u) = let E = later D r in record {
  inv-now = inv E.inv-now m;
  bound-now = bound E.inv-now E.bound-now m;
  placed-now = placed E.placed-now m;
  cell = rw (same-N m) E.cell;
  lost = λ h. E.lost (garbage m h E.used);
  used = u;
  doom = doomed x a E.inv-now E.cell E.lost E.used m u E.doom;
  load-now = worked W a E.bound-now E.load-now m;
}

-- there are at most two closings, and the third cycle is not over
below_3C : (a C c W x : ℕ) (σ : Stage) (s : St) → Doomed a σ s.colour s.field x → W ≤ a * C + c → c < C → W < 3 * C
below_3C zero C c W x σ s d h b = omega arith
below_3C (suc zero) C c W x σ s d h b = omega arith
below_3C (suc (suc zero)) C c W x σ s d h b = omega arith
below_3C (suc (suc (suc a))) C c W x σ s d h b = absurd d

-- Demand 3's third part: as long as a garbage cell has not been free, fewer than 3 C working turns have been made since it
-- was garbage. So within 3 C of them the sweep frees it.
pub freed : {s₀ : St} → IsStart s₀ → s₀.count ≡ 0 → {σ₁ : Stage} {s₁ : St} → Run s₀ σ₁ s₁
    → (x : ℕ) → x < s₁.N → s₁.colour x ≢ 0 → ¬ Reach s₁ x → {W a : ℕ} {σ : Stage} {s : St} → Later x σ₁ s₁ W a σ s
    → W < 3 * c_max s.N s.g
freed {s₀} S z {σ₁} {s₁} r x b u g {W} {a} {σ} {s} l =
    let E = later (record {
      inv-now = run-inv S r;
      bound-now = run-bound S z r;
      placed-now = run-placed r;
      cell = b;
      lost = g;
      used = u;
      doom = tt;
      load-now = omega arith;
    }) l in
    below_3C a (c_max s.N s.g) (in_cycle σ s.count) W x σ s E.doom E.load-now
    (in_cycle-C σ E.inv-now E.bound-now E.placed-now)
