-- A part of a list of bytes, and a list with a part replaced: where they lie, one inside the other, and apart.
use Rattle.std.specs.Prelude.{List, ◌++◌, ℕ, ◌+◌, take}
use Rattle.std.proofs.Math.ListN.{length, drop}

-- the n elements of l from at
unfoldable pub part : ℕ → ℕ → List ℕ → List ℕ
part at n l = take n (drop at l)

-- l with its elements from at on replaced by those of ys, as many as there are
unfoldable pub splice : ℕ → List ℕ → List ℕ → List ℕ
splice at ys l = take at l ++ (ys ++ drop (at + length ys) l)
