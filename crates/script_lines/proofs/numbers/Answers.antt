use Rattle.std.proofs.Common.{sym, ◌∙◌, ap, rules}
use Rattle.script_lines.specs.Turns.{too_few, other_count, too_many, numbers_start, numbers_more, numbers_none, numbers_end}
use Rattle.script_numbers.specs.Numbers.{number_of}
use Rattle.script_lines.proofs.numbers.Goals as goal

pub returns-then-words-from : goal.returns-then-words-from
returns-then-words-from c = too_few _ _ _ _ c.words-words.ensures c.if-words-from.true

pub returns-then-words-from-2 : goal.returns-then-words-from-2
returns-then-words-from-2 c = other_count _ _ _ _ c.words-words.ensures c.if-words-from.false c.if-words-from-2.true

pub returns-then-count-gt8 : goal.returns-then-count-gt8
returns-then-count-gt8 c = too_many _ _ _ _ c.words-words.ensures c.if-words-from.false c.if-words-from-2.false c.if-count-gt8.true

pub loop-i-init : goal.loop-i-init
loop-i-init c = (
  c.if-count-gt8.false,
  c.if-words-from.false,
  c.if-words-from-2.false,
  numbers_start _ _ _ _ c.words-words.ensures c.if-words-from.false c.if-words-from-2.false c.if-count-gt8.false,
)

pub returns-in_err-numbers : goal.returns-in_err-numbers
returns-in_err-numbers c =
    c.from_residual.ensures
    ∙ numbers_none _ _ _ _ _ _ c.loop-i-test.true
    (sym (c.number.ensures ∙ ap (number_of 0xffffffff) c.word-word.ensures) ∙ c.in_err-numbers.was) c.loop-i.invariant.3

pub loop-i-preserved : goal.loop-i-preserved
loop-i-preserved c = (
  search rules,
  search rules,
  search rules,
  numbers_more _ _ _ _ _ _ _ c.loop-i-test.true
      (sym (c.number.ensures ∙ ap (number_of 0xffffffff) c.word-word.ensures) ∙ c.in_ok-numbers.was) c.loop-i.invariant.3,
)

pub returns : goal.returns
returns c = search (rules, numbers_end)
