use Rattle.register_calls.specs.Made.{hcr_short, fields_short, bad_event, write_made}
use borrow.Author.Rules.{rules}
use Rattle.register_calls.proofs.write_register.Goals as goal

pub returns-then-hcr-lt28 : goal.returns-then-hcr-lt28
returns-then-hcr-lt28 c = search (rules, hcr_short)

pub returns-then-fields-lt32 : goal.returns-then-fields-lt32
returns-then-fields-lt32 c = search (rules, fields_short)

pub returns-then-fields-gt1 : goal.returns-then-fields-gt1
returns-then-fields-gt1 c = search (rules, bad_event)

pub returns : goal.returns
returns c = search (rules, write_made)
