use mathlib.Core.Path.{◌∙◌}
use native.Mathlib.Omega.{arith}
use borrow.Author.Rules.{rules}
use borrow.Author.Tests.{tests}
use Rattle.lines.proofs.Splitting.{all_left, one_left, none_left}
use Rattle.lines.proofs.Walking.{long, no_word, word, number, bad, many, end}
use Rattle.lines.proofs.parse.parse_line.Goals as goal

pub returns-then-s-gt64 : goal.returns-then-s-gt64
returns-then-s-gt64 c = search long

pub returns-in_err-word : goal.returns-in_err-word
returns-in_err-word c =
    c.from_residual.ensures ∙ no_word _ _ (omega arith) (all_left c.split-fields.result _ c.split-fields.ensures.rest c.split-fields.ensures.done) (none_left _ _ _ _ c.next.ensures.steps c.in_err-word.was)

pub loop-field-init : goal.loop-field-init
loop-field-init c = record {
  read = rw (c.new-numbers.ensures, c.into_iter-field-iterator.ensures.into_iter_gives)
      (word _ _ _ _ (omega arith) (all_left c.split-fields.result _ c.split-fields.ensures.rest c.split-fields.ensures.done)
      (one_left _ _ _ _ c.next.ensures.steps _ c.in_ok-word.was (λ b t q k. search (rules, tests))));
}

pub loop-field-preserved : goal.loop-field-preserved
loop-field-preserved c = record {
  read = number _ _ _ _ c.loop-field.invariant.read _ _ c.in_ok-read_number.field-0 _
      (one_left _ _ _ _ c.next-in-loop-field.ensures.steps _ c.in-Some.is (λ b t q k. search (rules, tests)))
      (search rules) (search rules);
}

pub returns-in_err-read_number : goal.returns-in_err-read_number
returns-in_err-read_number c = c.from_residual-in_err-read_number.ensures ∙ bad _ _ _ _ c.loop-field.invariant.read _ _
    (one_left _ _ _ _ c.next-in-loop-field.ensures.steps _ c.in-Some.is (λ b t q k. search (rules, tests)))
    (search rules)

pub returns-in_err-ok : goal.returns-in_err-ok
returns-in_err-ok c = c.from_residual-in_err-ok.ensures ∙ many _ _ _ _ c.loop-field.invariant.read _ _
    (one_left _ _ _ _ c.next-in-loop-field.ensures.steps _ c.in-Some.is (λ b t q k. search (rules, tests)))
    (search rules)

pub returns : goal.returns
returns c = c.command.ensures ∙ rw c.deref.ensures.0 (end _ _ _ _ c.loop-field.invariant.read (none_left _ _ _ _ c.next-in-loop-field.ensures.steps c.in-None.is))
