use Rattle.std.proofs.Common.{rules, tests, ◌≡◌, is_some}
use Rattle.std.specs.List.{list_all}
use Rattle.std.proofs.lemmas.Iterator.{YieldsList-from_slice}
use Rattle.std.proofs.lemmas.Iterator.Search.{all_from_yields_List}
use Rattle.script_numbers.specs.Numbers.{digit_of}
use Rattle.script_bytes.specs.Turns.{digits_told}
use Rattle.script_bytes.proofs.all_digits.Goals as goal

pub returns : goal.returns
returns c =
    let found : c.all.result ≡ list_all (λ x. is_some (digit_of x)) c.args.word.now =
    all_from_yields_List (λ x. is_some (digit_of x)) _ _ c.all.result c.all.ensures.ran (YieldsList-from_slice _ c.iter.ensures.rest) (λ x b q k. search (rules, tests)) in
    digits_told _ _ found
