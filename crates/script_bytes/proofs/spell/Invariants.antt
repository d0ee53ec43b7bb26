use Rattle.std.proofs.Common.{◌≡◌}
use Rattle.script_bytes.specs.Bytes.{text_of}
use Rattle.words.specs.Maps.{map_first}
use Rattle.script_bytes.proofs.spell.Given as goal

abbrev pub invariant-loop-j : goal.invariant-loop-j
invariant-loop-j l = l.text ≡ map_first (text_of l.bytes) 0 l.j l.initial.text
