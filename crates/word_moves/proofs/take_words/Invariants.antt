use Rattle.std.proofs.Common.{◌≡◌, ◌+◌, ◌*◌, ◌≤◌, length}
use Rattle.burst_table.specs.Sizes.{burst_size}
use Rattle.byte_rule.specs.Bytes.{taken_byte}
use Rattle.word_moves.specs.Places.{before}
use Rattle.words.specs.Maps.{map_from}
use Rattle.word_moves.proofs.take_words.Given as goal

abbrev pub invariant-loop-k : goal.invariant-loop-k
invariant-loop-k l = (l.k * 4 ≤ burst_size) × (length l.burst ≡ burst_size) × (l.burst ≡ map_from (before (l.first + l.k * 4) (taken_byte l.edge l.image)) l.first l.initial.burst)
