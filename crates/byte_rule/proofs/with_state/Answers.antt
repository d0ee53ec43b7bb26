use Rattle.byte_rule.specs.Bytes.{with_state}
use Rattle.words.proofs.Choice.{cases}
use Rattle.byte_rule.proofs.with_state.Goals as goal

pub returns-then-at-eq0 : goal.returns-then-at-eq0
unfolding with_state
returns-then-at-eq0 c = rw (← c.from.ensures) (search cases)

pub returns : goal.returns
unfolding with_state
returns c = search cases depth 8
