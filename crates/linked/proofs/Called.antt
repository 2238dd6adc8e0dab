-- Turns made by the exported calls: there are such calls for every list of turns.
use Rattle.std.specs.Prelude.{refl, List, [], ◌∷◌}
use Rattle.machine.specs.Machine.{Turn}
use Rattle.turns.specs.Calls.{Lent}
use Rattle.linked.specs.Called.{turn_by, Called, stay, call, after_all}

-- every list of turns can be made by exported calls
pub calls : (p : Lent) (ts : List Turn) → Called p ts (after_all p ts)
unfolding after_all
calls p [] = stay
calls p (t ∷ ts) = call t (turn_by t p).answer refl (calls (turn_by t p).after ts)
