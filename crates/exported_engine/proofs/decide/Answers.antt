use Rattle.std.proofs.Common.{refl, ◌∙◌, ap}
use Rattle.exported_engine.specs.Asked.{found_ready}
use Rattle.rules.specs.Engines.{decide_asked, decide_number}
use Rattle.words.proofs.Choice.{pick_yes, pick_no}
use borrow.Author.Rules.{rules}
use Rattle.exported_engine.proofs.decide.Goals as goal

pub returns-then-not-hca : goal.returns-then-not-hca
unfolding decide_number
returns-then-not-hca c room = rw c.in-Some.is (pick_yes _ _ _ _ c.if-not-hca.true refl)

pub decide_asked-requires : goal.decide_asked-requires
decide_asked-requires c = search (rules, found_ready)

pub returns : goal.returns
unfolding decide_number
returns c room =
    rw c.in-Some.is
    (pick_no _ _ _ _ c.if-not-hca.false
    (c.decide_asked.ensures room ∙ ap (decide_asked _) c.read_engine-asked.ensures.0))

pub returns-in_default : goal.returns-in_default
unfolding decide_number
returns-in_default c room = rw c.in_default.is
