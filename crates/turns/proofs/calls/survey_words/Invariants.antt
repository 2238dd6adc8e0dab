use Rattle.std.proofs.Common.{◌≡◌, take}
use Rattle.std.specs.List.{list_all}
use Rattle.turns.proofs.Surveying.{status_in, status_is}
use Rattle.turns.proofs.calls.survey_words.Given as goal

-- the rows so far are asked
abbrev pub invariant-loop-words : goal.invariant-loop-words
invariant-loop-words l = (l.fit ≡ list_all status_in (take l.words-index l.words-items)) × (l.same ≡ list_all (status_is l.number) (take l.words-index l.words-items))
