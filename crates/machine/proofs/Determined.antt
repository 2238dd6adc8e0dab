-- The one shape of a public contract allows one outcome only.
use Rattle.std.specs.Prelude.{◌≡◌}
use Rattle.std.proofs.Common.{sym, ◌∙◌}
use Rattle.machine.specs.Store.{Store}
use Rattle.machine.specs.Machine.{Public, starting, turning, counting, Answers, said_in, Meets}
use Rattle.machine.proofs.AnswerLaws.{answer-said, report_said}

-- "prove that two outcomes allowed by it coincide"
said_once : (p : Public) (a b : Answers p) → said_in p a ≡ said_in p b → a ≡ b
said_once (starting n g m) = answer-said
said_once (turning t) = answer-said
said_once counting = report_said

pub determined : (p : Public) (st : Store) (a b : Answers p) (after after' : Store) → Meets p st a after → Meets p st b after' → (a ≡ b) × (after ≡ after')
determined p st a b after after' m n = (said_once p a b (m.says ∙ sym n.says), m.leaves ∙ sym n.leaves)
