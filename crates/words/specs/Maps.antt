-- A list of which each element is replaced by a function of its place and itself.
use Rattle.std.specs.Prelude.{List, [], ◌∷◌, ℕ, zero, suc}

-- element k of l becomes f (i + k) of itself
unfoldable pub map_from : (ℕ → ℕ → ℕ) → ℕ → List ℕ → List ℕ
map_from f i [] = []
map_from f i (x ∷ xs) = f i x ∷ map_from f (suc i) xs

-- l with its first n elements so replaced: what a loop over l has done after n turns
unfoldable pub map_first : (ℕ → ℕ → ℕ) → ℕ → ℕ → List ℕ → List ℕ
map_first f i zero l = l
map_first f i (suc n) [] = []
map_first f i (suc n) (x ∷ xs) = f i x ∷ map_first f (suc i) n xs
