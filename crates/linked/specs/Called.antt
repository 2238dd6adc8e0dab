-- Turns made by the exported calls.
use Rattle.std.specs.Prelude.{ℕ, ◌≡◌, List, [], ◌∷◌}
use Rattle.machine.specs.Machine.{Turn, writer, collector}
use Rattle.turns.specs.Calls.{Lent, Reply, result_of, write_by, collect_by}

-- what the contract of the exported call for this turn says: writer w's calls, and the collector's
abbrev pub turn_by : Turn → Lent → Reply
turn_by (writer w call) = write_by w call
turn_by collector = collect_by

-- these turns, each made by an exported call that met its contract, led from one memory to the other
pub data Called : Lent → List Turn → Lent → Type 0 where
  stay : {p : Lent} → Called p [] p
  call : {p next now : Lent} {ts : List Turn} (t : Turn) (a : ℕ) → result_of a next ≡ turn_by t p → Called next ts now → Called p (t ∷ ts) now

-- the memory after these turns, each made by the exported call for it
unfoldable pub after_all : Lent → List Turn → Lent
after_all p [] = p
after_all p (t ∷ ts) = after_all (turn_by t p).after ts
