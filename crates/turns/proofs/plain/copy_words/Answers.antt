use borrow.Author.Rules.{rules}
use Rattle.turns.proofs.Copying.{copies}
use Rattle.turns.proofs.plain.copy_words.Goals as goal

pub loop-i-init : goal.loop-i-init
loop-i-init c = search (rules, copies)

pub bounds-desk-at : goal.bounds-desk-at
bounds-desk-at c = search copies

pub loop-i-preserved : goal.loop-i-preserved
loop-i-preserved c = search copies

pub shape_of-desk : goal.shape_of-desk
shape_of-desk c = search copies

pub returns : goal.returns
returns c = search copies
