use Rattle.script_words.proofs.Turns.{end_of}
use Rattle.script_words.proofs.word_end.Goals as goal

pub returns : goal.returns
returns c = end_of _ _ _ c.requires c.first_length.ensures.0 c.first_length.ensures.1
