use Rattle.std.proofs.Common.{sym}
use Rattle.words.proofs.Parts.{splice_none}
use Rattle.answers.proofs.command_answer.Goals as goal

pub returns-in-Sw2Hw : goal.returns-in-Sw2Hw
returns-in-Sw2Hw c = rw c.in-Sw2Hw.is (sym (splice_none _))

pub returns-in-Hw2Sw : goal.returns-in-Hw2Sw
returns-in-Hw2Sw c = rw c.in-Hw2Sw.is (sym (splice_none _))

pub returns-in-ResizeCq : goal.returns-in-ResizeCq
returns-in-ResizeCq c = rw c.in-ResizeCq.is (sym (splice_none _))

pub returns-in-ModifyQp : goal.returns-in-ModifyQp
returns-in-ModifyQp c = rw c.in-ModifyQp.is (sym (splice_none _))
