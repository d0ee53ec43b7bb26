use Rattle.std.proofs.Common.{arith}
use Rattle.context.proofs.Records.{record_small}
use Rattle.records.specs.Calls.{qp_place, cq_place, eq_place}
use Rattle.records.proofs.three_place.Goals as goal

pub overflow_add-result : goal.overflow_add-result
overflow_add-result c = omega (arith, c.record_at.ensures, c.if-first-lt256.true, record_small _ _ c.requires.logs_value c.requires.all_records.0)

pub returns-then-first-lt256 : goal.returns-then-first-lt256
returns-then-first-lt256 c = qp_place _ _ _ _ _ _ c.record_at.ensures c.if-first-lt256.true

pub overflow_add-result-then-first-lt320 : goal.overflow_add-result-then-first-lt320
overflow_add-result-then-first-lt320 c = omega (arith, c.record_at-then-first-lt320.ensures, c.if-first-lt320.true, record_small _ _ c.requires.logs_value c.requires.all_records.1.0)

pub returns-then-first-lt320 : goal.returns-then-first-lt320
returns-then-first-lt320 c = cq_place _ _ _ _ _ _ c.record_at-then-first-lt320.ensures c.if-first-lt256.false c.if-first-lt320.true

pub overflow_add-result-2 : goal.overflow_add-result-2
overflow_add-result-2 c = omega (arith, c.record_at-2.ensures, c.requires.first_bound, record_small _ _ c.requires.logs_value c.requires.all_records.1.1.0)

pub returns : goal.returns
returns c = eq_place _ _ _ _ _ _ c.record_at-2.ensures c.if-first-lt320.false c.requires.first_bound
