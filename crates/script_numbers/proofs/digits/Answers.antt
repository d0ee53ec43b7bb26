use Rattle.std.proofs.Common.{sym, ◌∙◌, arith, rules}
use Rattle.script_numbers.specs.Turns.{digits_start, digits_none, digits_stop, digits_other, digits_above, digits_more, digits_end}
use Rattle.script_numbers.proofs.digits.Goals as goal

pub returns-then-is_empty : goal.returns-then-is_empty
returns-then-is_empty c = search (rules, digits_none)

pub loop-character-init : goal.loop-character-init
loop-character-init c = search (rules, digits_start)

pub returns-in_err-digit : goal.returns-in_err-digit
returns-in_err-digit c =
    c.from_residual.ensures
    ∙ digits_stop _ _ _ _ _ _ c.loop-character-test.true (sym c.digit.ensures ∙ c.in_err-digit.was) c.loop-character.invariant

pub returns-then-base-digit : goal.returns-then-base-digit
returns-then-base-digit c =
    digits_other _ _ _ _ _ _ _ c.loop-character-test.true (sym c.digit.ensures ∙ c.in_ok-digit.was)
    c.if-base-digit.true c.loop-character.invariant

pub returns-then-from-next : goal.returns-then-from-next
returns-then-from-next c =
    digits_above _ _ _ _ _ _ _ _ c.loop-character-test.true (sym c.digit.ensures ∙ c.in_ok-digit.was)
    c.if-base-digit.false c.extended-next.ensures (omega (arith, c.from.ensures, c.if-from-next.true)) c.loop-character.invariant

pub loop-character-preserved : goal.loop-character-preserved
loop-character-preserved c =
    digits_more _ _ _ _ _ _ _ _ c.loop-character-test.true (sym c.digit.ensures ∙ c.in_ok-digit.was)
    c.if-base-digit.false c.extended-next.ensures (omega (arith, c.from.ensures, c.if-from-next.false)) c.loop-character.invariant

pub returns : goal.returns
returns c = search (rules, digits_end)
