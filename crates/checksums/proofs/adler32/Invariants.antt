use Rattle.std.proofs.Common.{◌≡◌, ◌<◌, drop}
use Rattle.checksums.specs.Adler.{adler_from, adler}
use Rattle.checksums.proofs.adler32.Given as goal

abbrev pub invariant-loop-byte : goal.invariant-loop-byte
invariant-loop-byte l = (l.a < 65521) × (l.b < 65521) × (adler_from (drop l.byte-index l.bytes) l.a l.b ≡ adler l.bytes)
