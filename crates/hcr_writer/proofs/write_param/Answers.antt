use Rattle.hcr.proofs.Writing.{two_words}
use borrow.Author.Rules.{rules}
use Rattle.hcr_writer.proofs.write_param.Goals as goal

pub returns : goal.returns
returns c = search (rules, two_words)
