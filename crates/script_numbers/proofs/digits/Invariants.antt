use Rattle.std.proofs.Common.{◌≡◌, drop}
use Rattle.script_numbers.specs.Numbers.{read_digits, digits_of}
use Rattle.script_numbers.proofs.digits.Given as goal

abbrev pub invariant-loop-character : goal.invariant-loop-character
invariant-loop-character l = read_digits l.base l.most (drop l.character-index l.text) l.value ≡ digits_of l.base l.most l.text
