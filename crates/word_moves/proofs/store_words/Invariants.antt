use Rattle.std.proofs.Common.{◌≡◌, ◌+◌, ◌*◌, ◌≤◌, length}
use Rattle.burst_table.specs.Sizes.{burst_size}
use Rattle.word_moves.specs.Places.{before, image_byte}
use Rattle.words.specs.Maps.{map_from}
use Rattle.word_moves.proofs.store_words.Given as goal

abbrev pub invariant-loop-k : goal.invariant-loop-k
invariant-loop-k l = (l.k * 4 ≤ burst_size) × (length l.burst ≡ burst_size) × (l.burst ≡ map_from (before (l.first + l.k * 4) (before l.stored (image_byte l.image))) l.first l.initial.burst)
