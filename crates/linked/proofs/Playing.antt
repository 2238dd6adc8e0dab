-- The exported calls play the machine's turns, on a memory that plain numbers tell as it is.
use Rattle.std.specs.Prelude.{ℕ, ◌≡◌, refl, List, [], ◌∷◌}
use Rattle.machine.specs.Machine.{Turn, turn, turning, outcome_of, Meets}
use Rattle.machine.specs.Run.{run}
use Rattle.runs.specs.Site.{Played}
use Rattle.turns.specs.Calls.{Lent, store_of, result_of}
use Rattle.linked.specs.Called.{turn_by, Called, stay, call}
use Rattle.linked.specs.Kept.{Kept}
use Rattle.linked.proofs.Kept.{turn-kept}
use Rattle.linked.specs.Playing.{Lasting}

module _ {p : Lent} (L : Lasting p) (t : Turn) {a : ℕ} {next : Lent} (e : result_of a next ≡ turn_by t p) where
  -- after an exported call: it made the machine's turn, the memory is such a one again, and the public call's contract is met
  pub kept : Kept (turn t (store_of p)) (result_of a next)
  unfolding run
  kept = rw e (turn-kept t p L.whole (L.tellable (t ∷ [])))

  lasts : Lasting next
  unfolding run
  lasts = record { whole = kept.tells.whole; tellable = rw kept.tells.store (λ ts. L.tellable (t ∷ ts)) }

  pub meets : Meets (turning t) (store_of p) (turn t (store_of p)).answer (store_of next)
  unfolding outcome_of
  meets = record { says = refl; leaves = kept.tells.store }

-- after any number of calls
pub lasting : {p now : Lent} {ts : List Turn} → Lasting p → Called p ts now → Lasting now
lasting L stay = L
lasting L (call t a e c) = lasting (lasts L t e) c

-- the machine's turns are played
pub played : {p now : Lent} {ts : List Turn} → Lasting p → Called p ts now → Played (store_of p) ts (store_of now)
played L stay = Played.stay
played L (call {p} t a e c) = Played.call t (turn t (store_of p)).answer (meets L t e) (played (lasts L t e) c)
