-- A fresh store has the invariant, and so it holds after each run of moves from it.
use Rattle.std.specs.Prelude.{◌≡◌, ℕ, ◌≤◌, ◌<◌}
use Rattle.std.proofs.Common.{sym, ◌∙◌, ap, arith}
use Rattle.std.proofs.Math.Decide.{dec_lt}
use Rattle.moves.specs.Machine.{Stage, rest, St, none}
use Rattle.moves.specs.Rows.{job_tag}
use Rattle.moves.specs.Invariant.{Inv}
use Rattle.moves.proofs.Invariant.{inv}
use Rattle.moves.specs.Run.{IsStart, Run, start, then}

-- a fresh store has the invariant
pub start-inv : {s : St} → IsStart s → Inv rest s
start-inv {s} S = record {
  closed = record {
    room = S.room;
    nil = S.rest-black;
    «open» = tt;
    pages = λ p l. omega (arith, S.whites p l);
    fields = λ x f _ _. rw (S.fields x f) none_in;
    rows =
        λ w l. record {
          status = S.status w;
          slots = λ k _. rw (S.slots w k) none_in;
          names = λ k. rw (S.jobs w) none_in;
          fits = rw (S.jobs w) tt;
        };
  };
  tidy = record {
    jobs = λ w l. rw (S.jobs w) tt;
    fresh = λ w n k m l e. absurd (omega (arith, ap job_tag (sym (S.jobs w) ∙ e)));
    stale = λ q. absurd q;
    blank = λ x f _ _. S.fields x f;
    colours = λ i. three i (dec_lt i s.g) (dec_lt i s.N);
  };
  blacks = λ x l e. absurd (go x l e (dec_lt x s.g));
  guarded = λ t. absurd t;
  ahead = tt;
}
  where
    none_in : 1 ≤ s.colour none
    none_in = omega (arith, S.rest-black none (omega (arith, S.room)))

    three : (i : ℕ) → Dec (i < s.g) → Dec (i < s.N) → s.colour i ≤ 3
    three i (yes l) d = omega (arith, S.whites i l)
    three i (no l) (yes b) = omega (arith, S.frees i (omega arith) b)
    three i (no l) (no b) = omega (arith, S.rest-black i (omega arith))

    go : (x : ℕ) → x < s.N → s.colour x ≡ 3 → Dec (x < s.g) → ⊥
    go x l e (yes b) = omega (arith, S.whites x b)
    go x l e (no b) = omega (arith, S.frees x (omega arith) l)

-- the invariant holds after every run
pub run-inv : {s₀ : St} → IsStart s₀ → {σ : Stage} {s : St} → Run s₀ σ s → Inv σ s
run-inv S start = start-inv S
run-inv S (then r m) = inv (run-inv S r) m
