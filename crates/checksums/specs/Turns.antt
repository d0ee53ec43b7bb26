-- The turns of the loop over the bytes: what is left of them decides.
use Rattle.std.specs.Prelude.{◌≡◌, List, ℕ, ◌+◌, ◌*◌, ◌%◌, ◌≤◌, ◌<◌, length, get_or, drop}
use Rattle.std.proofs.Common.{add-one, drop_of_length-le, drop-cons}
use Rattle.checksums.specs.Adler.{adler_from}

pub adler_more : (l : List ℕ) (i a b a' b' r : ℕ) → i < length l → a' ≡ (a + get_or l i 0) % 65521 → b' ≡ (b + a') % 65521
    → adler_from (drop i l) a b ≡ r → adler_from (drop (i + 1) l) a' b' ≡ r
unfolding adler_from
adler_more l i a b a' b' r h p q e = rw (q, p, add-one) (rw (drop-cons l i 0 h) at e)

pub adler_end : (l : List ℕ) (i a b r : ℕ) → length l ≤ i → adler_from (drop i l) a b ≡ r → b * 65536 + a ≡ r
unfolding adler_from
adler_end l i a b r h e = rw (drop_of_length-le l {i = i} h) at e
