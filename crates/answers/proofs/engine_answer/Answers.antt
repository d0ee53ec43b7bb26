use Rattle.std.proofs.Common.{sym}
use Rattle.words.proofs.Parts.{splice_none}
use Rattle.answers.proofs.engine_answer.Goals as goal

pub returns-in-Write : goal.returns-in-Write
returns-in-Write c = rw c.in-Write.is (sym (splice_none _))
