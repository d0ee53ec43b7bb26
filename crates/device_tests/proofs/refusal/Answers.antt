use Rattle.device_calls.proofs.Tests.{first_sized, first_lengths, first_impossible, first_passed}
use Rattle.device_tests.proofs.refusal.Goals as goal

pub returns-then-dev-ne288 : goal.returns-then-dev-ne288
returns-then-dev-ne288 c = first_sized _ _ _ c.if-dev-ne288.true

pub returns-then-lengths_wrong : goal.returns-then-lengths_wrong
returns-then-lengths_wrong c = first_lengths _ _ _ _ c.if-dev-ne288.false c.read_hca-hca.ensures _ c.lengths_wrong.ensures c.if-lengths_wrong.true

pub returns-then-device_impossible : goal.returns-then-device_impossible
returns-then-device_impossible c = first_impossible _ _ _ _ c.if-dev-ne288.false c.read_hca-hca.ensures _ c.lengths_wrong.ensures _ c.device_impossible.ensures c.if-lengths_wrong.false c.if-device_impossible.true

pub returns : goal.returns
returns c = first_passed _ _ _ _ c.if-dev-ne288.false c.read_hca-hca.ensures _ c.lengths_wrong.ensures _ c.device_impossible.ensures c.if-lengths_wrong.false c.if-device_impossible.false
