use Rattle.std.proofs.Common.{refl}
use Rattle.deciding_joined.specs.Named.{cq_stored, cq_told}
use Rattle.rules.specs.Engines.{decide_joined}
use Rattle.words.proofs.Choice.{pick_yes, pick_no, told}
use Rattle.deciding_joined.proofs.decide_joined.Goals as goal

pub returns-then-read_held : goal.returns-then-read_held
unfolding decide_joined
returns-then-read_held c room = pick_yes _ _ _ _ (told _ _ _ c.read_held.ensures c.if-read_held.true) refl

pub decide_cq-requires : goal.decide_cq-requires
decide_cq-requires c = cq_stored _ _ _ _ _ c.requires c.cq_number.ensures.0

pub returns : goal.returns
unfolding decide_joined
returns c room =
    pick_no _ _ _ _ (told _ _ _ c.read_held.ensures c.if-read_held.false)
    (cq_told _ _ _ _ _ _ c.cq_named-name.ensures c.cq_number.ensures.0 (c.decide_cq.ensures room))
