use Rattle.script_bytes.specs.Bytes.{count_of}
use Rattle.words.proofs.Choice.{cases}
use borrow.Author.Tests.{not-true, not-false}
use Rattle.script_bytes.proofs.count.Goals as goal

pub returns-then-same : goal.returns-then-same
unfolding count_of
returns-then-same c = search (cases, not-true, not-false) depth 12

pub returns-then-is_empty : goal.returns-then-is_empty
unfolding count_of
returns-then-is_empty c = search (cases, not-true, not-false) depth 12

pub returns-then-word-ne0 : goal.returns-then-word-ne0
unfolding count_of
returns-then-word-ne0 c = search (cases, not-true, not-false) depth 12

pub returns-then-not-all_digits : goal.returns-then-not-all_digits
unfolding count_of
returns-then-not-all_digits c = search (cases, not-true, not-false) depth 12

pub returns : goal.returns
unfolding count_of
returns c = search (cases, not-true, not-false) depth 12
