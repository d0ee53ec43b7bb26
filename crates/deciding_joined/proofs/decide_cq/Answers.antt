use Rattle.std.proofs.Common.{refl}
use Rattle.deciding_joined.specs.Named.{eq_told}
use Rattle.rules.specs.Engines.{decide_cq}
use Rattle.words.proofs.Choice.{pick_yes, pick_no, told}
use Rattle.deciding_joined.proofs.decide_cq.Goals as goal

pub returns-then-read_held : goal.returns-then-read_held
unfolding decide_cq
returns-then-read_held c room = rw c.in-Some.is (pick_yes _ _ _ _ (told _ _ _ c.read_held.ensures c.if-read_held.true) refl)

pub eq_named-name-requires-clause-logs_value : goal.eq_named-name-requires-clause-logs_value
eq_named-name-requires-clause-logs_value c = let has = c.requires.stored _ c.in-Some.is in has.ranges

pub eq_named-name-requires-clause-fits : goal.eq_named-name-requires-clause-fits
eq_named-name-requires-clause-fits c = let has = c.requires.stored _ c.in-Some.is in has.fits

pub returns : goal.returns
unfolding decide_cq
returns c room =
    rw c.in-Some.is
    (pick_no _ _ _ _ (told _ _ _ c.read_held.ensures c.if-read_held.false)
    (eq_told _ _ _ _ _ _ _ c.eq_named-name.ensures c.eq_number.ensures.0 (c.decide_eq.ensures _ _ _)))

pub returns-in_default : goal.returns-in_default
unfolding decide_cq
returns-in_default c room = rw c.in_default.is
