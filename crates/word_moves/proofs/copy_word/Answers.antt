use Rattle.std.proofs.Common.{sym, ◌∙◌}
use Rattle.words.proofs.Leaves.{lent_part, part_four}
use Rattle.words.proofs.Parts.{length_part}
use borrow.Author.Rules.{rules}
use Rattle.word_moves.proofs.copy_word.Goals as goal

pub returns : goal.returns
returns c =
    lent_part _ 4 _ _ _ (length_part c.args.from 4 c.args.image.now (search rules))
    (c.copy_from_slice.ensures.after ∙ sym (part_four c.args.from c.args.image.now (search rules)))
