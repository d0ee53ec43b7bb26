use Rattle.std.proofs.Common.{refl, ap, not}
use Rattle.slot_judging.specs.Requests.{cq_told, eq_told, names_told}
use Rattle.slot_judging.proofs.joined.Goals as goal

pub returns-then-not-below_count : goal.returns-then-not-below_count
returns-then-not-below_count c =
    cq_told _ _ _ _ _ _ _ _ _ _ c.read_le32-cq.ensures c.read_le32-eq.ensures
    c.below_count.ensures (ap not c.if-not-below_count.true) refl

pub returns-then-not-below_count-2 : goal.returns-then-not-below_count-2
returns-then-not-below_count-2 c =
    eq_told _ _ _ _ _ _ _ _ _ _ c.read_le32-cq.ensures
    c.read_le32-eq.ensures c.below_count.ensures _
    c.below_count-2.ensures (ap not c.if-not-below_count.false) (ap not c.if-not-below_count-2.true) refl

pub returns : goal.returns
returns c =
    names_told _ _ _ _ _ _ _ _ _ _ c.read_le32-cq.ensures
    c.read_le32-eq.ensures
    c.below_count.ensures _ _ c.below_count-2.ensures
    (ap not c.if-not-below_count.false) (ap not c.if-not-below_count-2.false) c.three.ensures c.by_status.ensures
