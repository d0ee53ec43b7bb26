use Rattle.std.proofs.Common.{◌≡◌}
use Rattle.script_bytes.specs.Bytes.{byte_of}
use Rattle.words.specs.Maps.{map_first}
use Rattle.script_bytes.proofs.fill.Given as goal

abbrev pub invariant-loop-i : goal.invariant-loop-i
invariant-loop-i l = l.out ≡ map_first (byte_of l.word) 0 l.i l.initial.out
