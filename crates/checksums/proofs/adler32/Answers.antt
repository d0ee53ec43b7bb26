use Rattle.checksums.specs.Turns.{adler_more, adler_end}
use borrow.Author.Rules.{rules}
use Rattle.checksums.proofs.adler32.Goals as goal

pub loop-byte-preserved : goal.loop-byte-preserved
loop-byte-preserved c = (search rules, search rules, search (rules, adler_more))

pub returns : goal.returns
returns c = search (rules, adler_end)
