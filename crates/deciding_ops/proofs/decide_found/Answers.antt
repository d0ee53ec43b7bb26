use Rattle.std.proofs.Common.{◌∙◌, ap}
use Rattle.rules.specs.Commands.{decide_init, decide_found}
use Rattle.deciding_ops.proofs.decide_found.Goals as goal

pub returns-in_default : goal.returns-in_default
unfolding decide_found
returns-in_default c room = rw c.in_default.is

pub decide_request-requires : goal.decide_request-requires
decide_request-requires c = c.requires.stored _ (rw (← c.in-OnRecord.is) c.in-Some.is)

pub returns-in-InitHca : goal.returns-in-InitHca
unfolding decide_found
returns-in-InitHca c room = rw (c.in-Some.is, c.in-InitHca.is) (c.decide_init.ensures ∙ ap decide_init c.read_init.ensures.0)

pub returns-in-CloseHca : goal.returns-in-CloseHca
unfolding decide_found
returns-in-CloseHca c room = rw (c.in-Some.is, c.in-CloseHca.is)

pub returns-in-Nop : goal.returns-in-Nop
unfolding decide_found
returns-in-Nop c room = rw (c.in-Some.is, c.in-Nop.is)

pub returns-in-OnRecord : goal.returns-in-OnRecord
unfolding decide_found
returns-in-OnRecord c room = rw (c.in-Some.is, c.in-OnRecord.is) (c.decide_request.ensures room)
