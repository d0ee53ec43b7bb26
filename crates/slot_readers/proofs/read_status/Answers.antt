use Rattle.device_bytes.specs.Decoding.{status_of}
use Rattle.slot_readers.specs.Reading.{status_request}
use Rattle.words.proofs.Choice.{cases}
use borrow.Author.Rules.{rules}
use Rattle.slot_readers.proofs.read_status.Goals as goal

pub returns-then-code-eq0 : goal.returns-then-code-eq0
unfolding status_of
returns-then-code-eq0 c = search cases

pub returns : goal.returns
returns c = search (rules, status_request)
