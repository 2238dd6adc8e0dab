-- The collector's moves: what each working turn of the collector asks for, and the stage and store that it leads to.
use Rattle.std.specs.Prelude.{◌≡◌, ◌≢◌, ℕ, zero, suc, ◌+◌, ◌<◌}
use Rattle.moves.specs.Machine.{Stage, rest, ask1, ask2, roots, scan, sweep, St, none, set_colour, gray, set_count}
use Rattle.moves.specs.Machine.{tick, AllStatus}

-- what the sweep makes of a colour: white becomes free, black becomes white, gray and free stay
abbrev pub swept_to : ℕ → ℕ
swept_to zero = 0
swept_to (suc zero) = 0
swept_to (suc (suc zero)) = 2
swept_to (suc (suc (suc n))) = 1

-- The collector's working turns, by the stage that they start from; a waiting turn is no move. In stage 4 part 2k + 1 reads
-- field k into the hold, and part 2k + 2 grays the hold.
pub data Collecting (s : St) : Stage → Type 0 where
  opening : Collecting s rest
  asked1 : AllStatus s 1 → Collecting s ask1
  asked2 : AllStatus s 2 → Collecting s ask2
  -- stage 3: a page is grayed; past the last page all statuses are 0
  root : (p : ℕ) → p < s.g → Collecting s (roots p)
  rooted : AllStatus s 0 → Collecting s (roots s.g)
  -- stage 4, part 0: a cell that is not gray, a gray one, the end of a pass that opened a cell, of one that opened none
  skip : (p f : ℕ) → p < s.N → s.colour p ≢ 2 → Collecting s (scan p 0 none f)
  opened : (p f : ℕ) → p < s.N → s.colour p ≡ 2 → Collecting s (scan p 0 none f)
  again : Collecting s (scan s.N 0 none 1)
  scanned : Collecting s (scan s.N 0 none 0)
  -- stage 4, the parts of the open cell: odd, even, 9
  hold : (p k f : ℕ) → k < 4 → Collecting s (scan p (suc (k + k)) none f)
  gray-hold : (p k h f : ℕ) → k < 4 → Collecting s (scan p (suc (suc (k + k))) h f)
  done : (p f : ℕ) → p < s.N → Collecting s (scan p 9 none f)
  -- stage 5
  swept : (p : ℕ) → p < s.N → Collecting s (sweep p)
  closing : Collecting s (sweep s.N)

-- the stage after a collector's move
abbrev pub next-stage : {s : St} {σ : Stage} → Collecting s σ → Stage
next-stage opening = ask1
next-stage (asked1 a) = ask2
next-stage (asked2 a) = roots 0
next-stage (root p a) = roots (p + 1)
next-stage (rooted a) = scan 0 0 none 0
next-stage (skip p f a b) = scan (p + 1) 0 none f
next-stage (opened p f a b) = scan p 1 none 1
next-stage again = scan 0 0 none 0
next-stage scanned = sweep 0
next-stage {s} (hold p k f a) = scan p (suc (suc (k + k))) (s.field p k) f
next-stage (gray-hold p k h f a) = scan p (suc (suc (suc (k + k)))) none f
next-stage (done p f a) = scan (p + 1) 0 none f
next-stage (swept p a) = sweep (p + 1)
next-stage closing = rest

-- the store after a collector's move: the opening sets the count to 1, every later turn adds 1
abbrev pub collected : {s : St} {σ : Stage} → Collecting s σ → St
collected {s} opening = set_count s 1
collected {s} (asked1 a) = tick s
collected {s} (asked2 a) = tick s
collected {s} (root p a) = tick (gray s p)
collected {s} (rooted a) = tick s
collected {s} (skip p f a b) = tick s
collected {s} (opened p f a b) = tick s
collected {s} again = tick s
collected {s} scanned = tick s
collected {s} (hold p k f a) = tick s
collected {s} (gray-hold p k h f a) = tick (gray s h)
collected {s} (done p f a) = tick (set_colour s p 3)
collected {s} (swept p a) = tick (set_colour s p (swept_to (s.colour p)))
collected {s} closing = tick s
