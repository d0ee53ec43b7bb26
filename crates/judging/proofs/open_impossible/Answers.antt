use Rattle.std.proofs.Common.{ap, not}
use Rattle.judging.specs.Device.{open_past, open_slots}
use Rattle.judging.proofs.open_impossible.Goals as goal

pub returns-then-not-fits_store : goal.returns-then-not-fits_store
returns-then-not-fits_store c = open_past c.args.hca _ _ c.fits_store.ensures (ap not c.if-not-fits_store.true)

pub returns : goal.returns
returns c =
    open_slots c.args.hca _ _ _ c.fits_store.ensures
    (ap not c.if-not-fits_store.false) c.slots_impossible.ensures
