use Rattle.judging.specs.Device.{device_junk, device_open, device_closed}
use Rattle.judging.proofs.device_impossible.Goals as goal

pub returns-then-dev-gt1 : goal.returns-then-dev-gt1
returns-then-dev-gt1 c = device_junk _ _ c.requires c.if-dev-gt1.true

pub returns-then-hca : goal.returns-then-hca
returns-then-hca c =
    device_open c.args.hca _ c.requires _
    c.if-dev-gt1.false c.if-hca.true c.open_impossible.ensures

pub returns : goal.returns
returns c =
    device_closed c.args.hca _ c.requires _
    c.if-dev-gt1.false c.if-hca.false c.any_occupied.ensures
