use Rattle.std.proofs.Common.{refl, true, ap, not}
use Rattle.slot_judging.specs.Requests.{one_told, psn_told, state_told, write_told}
use Rattle.slot_judging.proofs.write.Goals as goal

pub returns-then-not-psn_fits : goal.returns-then-not-psn_fits
returns-then-not-psn_fits c =
    psn_told _ _ _ _ _ _ _ _ c.read_le32.ensures c.psn_fits.ensures
    (ap not c.if-not-psn_fits.true) refl

pub returns-then-s-gt6 : goal.returns-then-s-gt6
returns-then-s-gt6 c =
    state_told _ _ _ _ _ _ _ _ c.read_le32.ensures
    c.psn_fits.ensures (ap not c.if-not-psn_fits.false) c.if-s-gt6.true
    refl

pub returns : goal.returns
returns c =
    write_told _ _ _ _ _ _ _ _ c.read_le32.ensures
    c.psn_fits.ensures (ap not c.if-not-psn_fits.false)
    c.if-s-gt6.false
    (one_told _ _ _ _ _ _ _ true _ _ c.coded.ensures c.one.ensures c.by_status.ensures)
