-- Adler-32 (RFC 1950): a is 1 and the sum of the bytes, b the sum of a after each byte, both modulo 65521; b is the high half.
use Rattle.std.specs.Prelude.{List, [], ◌∷◌, ℕ, ◌+◌, ◌*◌, ◌%◌}

-- the checksum where the bytes before left the sums a and b
unfoldable pub adler_from : List ℕ → ℕ → ℕ → ℕ
adler_from [] a b = b * 65536 + a
adler_from (x ∷ xs) a b = adler_from xs ((a + x) % 65521) ((b + (a + x) % 65521) % 65521)

abbrev pub adler : List ℕ → ℕ
adler l = adler_from l 1 0
