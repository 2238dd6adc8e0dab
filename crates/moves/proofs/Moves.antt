-- What every move leaves alone or counts.
use Rattle.std.specs.Prelude.{◌≡◌, refl}
use Rattle.moves.specs.Machine.{Stage, St}
use Rattle.moves.specs.Writing.{Writing, load, answer_post, answer-start, answer-gray, answer-end, store-start}
use Rattle.moves.specs.Writing.{store-read, store-old, store-new, store-write, take, look, keep, white, written}
use Rattle.moves.specs.Collecting.{Collecting, opening, asked1, asked2, root, rooted, skip, opened, again, scanned}
use Rattle.moves.specs.Collecting.{hold, gray-hold, done, swept, closing, collected}
use Rattle.moves.specs.Moves.{Move, by-writer, by-collector, after, work, counted}

-- a writer's move leaves N, g and the count
pub writing-leaves : {s : St} {σ : Stage} (m : Writing s σ)
    → ((written m).N ≡ s.N) × ((written m).g ≡ s.g) × ((written m).count ≡ s.count)
writing-leaves (load w k v a e d) = (refl, refl, refl)
writing-leaves (answer_post w a e d) = (refl, refl, refl)
writing-leaves (answer-start w a e d z) = (refl, refl, refl)
writing-leaves (answer-gray w k a e d) = (refl, refl, refl)
writing-leaves (answer-end w a e) = (refl, refl, refl)
writing-leaves (store-start w r f q a e d) = (refl, refl, refl)
writing-leaves (store-read w p c f v o a e d) = (refl, refl, refl)
writing-leaves (store-old w p c f v o a e) = (refl, refl, refl)
writing-leaves (store-new w p c f v o a e) = (refl, refl, refl)
writing-leaves (store-write w p c f v o a e d) = (refl, refl, refl)
writing-leaves (take w k n a e l z) = (refl, refl, refl)
writing-leaves (look w k n a e) = (refl, refl, refl)
writing-leaves (keep w k n a e) = (refl, refl, refl)
writing-leaves (white w k n a e) = (refl, refl, refl)

-- a collector's move leaves N and g, and counts
collecting-leaves : {s : St} {σ : Stage} (m : Collecting s σ)
    → ((collected m).N ≡ s.N) × ((collected m).g ≡ s.g) × ((collected m).count ≡ counted 1 σ s.count)
collecting-leaves opening = (refl, refl, refl)
collecting-leaves (asked1 a) = (refl, refl, refl)
collecting-leaves (asked2 a) = (refl, refl, refl)
collecting-leaves (root p l) = (refl, refl, refl)
collecting-leaves (rooted a) = (refl, refl, refl)
collecting-leaves (skip p f l n) = (refl, refl, refl)
collecting-leaves (opened p f l e) = (refl, refl, refl)
collecting-leaves again = (refl, refl, refl)
collecting-leaves scanned = (refl, refl, refl)
collecting-leaves (hold p k f l) = (refl, refl, refl)
collecting-leaves (gray-hold p k h f l) = (refl, refl, refl)
collecting-leaves (done p f l) = (refl, refl, refl)
collecting-leaves (swept p l) = (refl, refl, refl)
collecting-leaves closing = (refl, refl, refl)

-- so N stays under every move
pub same-N : {s : St} {σ : Stage} (m : Move s σ) → (after m).N ≡ s.N
same-N (by-writer m) = (writing-leaves m).0
same-N (by-collector m) = (collecting-leaves m).0

-- g stays
pub same-g : {s : St} {σ : Stage} (m : Move s σ) → (after m).g ≡ s.g
same-g (by-writer m) = (writing-leaves m).1
same-g (by-collector m) = (collecting-leaves m).1

-- and the count is 1 after the opening, one more after every other working turn, and else as it was: so it is the number of
-- working turns since the opening
pub count-after : {s : St} {σ : Stage} (m : Move s σ) → (after m).count ≡ counted (work m) σ s.count
count-after (by-writer m) = (writing-leaves m).2
count-after (by-collector m) = (collecting-leaves m).2
