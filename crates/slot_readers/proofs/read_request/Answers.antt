use Rattle.device_bytes.specs.Decoding.{request_in}
use Rattle.slot_readers.specs.Reading.{request_command, request_engine}
use Rattle.words.proofs.Choice.{cases}
use borrow.Author.Rules.{rules}
use Rattle.slot_readers.proofs.read_request.Goals as goal

pub returns-then-kind-eq0 : goal.returns-then-kind-eq0
returns-then-kind-eq0 c = search (rules, request_command)

pub returns-then-kind-eq1 : goal.returns-then-kind-eq1
returns-then-kind-eq1 c = search (rules, request_engine)

pub returns : goal.returns
unfolding request_in
returns c = search cases depth 8
