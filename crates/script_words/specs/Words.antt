-- How a line of a script is cut into words: a single space parts two of them.
use Rattle.std.specs.Prelude.{Bool, true, false, List, [], ◌∷◌, ℕ, zero, suc, ◌+◌, ◌-◌, eqb, take}
use Rattle.words.specs.Choice.{pick}

-- whether a character is the space
abbrev pub parts : ℕ → Bool
parts x = eqb x 32

-- 1 for the space, and else 0
abbrev pub one : ℕ → ℕ
one x = pick (parts x) 1 0

-- how many spaces there are
unfoldable pub spaces : List ℕ → ℕ
spaces [] = 0
spaces (x ∷ xs) = one x + spaces xs

-- what is left of a line behind its first k words and the space behind each
unfoldable pub behind : List ℕ → ℕ → List ℕ
behind [] k = []
behind (x ∷ xs) zero = x ∷ xs
behind (x ∷ xs) (suc k) = behind xs (suc k - one x)

-- how long the first word is
unfoldable pub first_length : List ℕ → ℕ
first_length [] = 0
first_length (x ∷ xs) = pick (parts x) 0 (suc (first_length xs))

-- word k, counted from 0
unfoldable pub word_at : ℕ → List ℕ → List ℕ
word_at k l = take (first_length (behind l k)) (behind l k)

-- whether two words are the same
unfoldable pub same_word : List ℕ → List ℕ → Bool
same_word [] [] = true
same_word [] (y ∷ ys) = false
same_word (x ∷ xs) [] = false
same_word (x ∷ xs) (y ∷ ys) = pick (eqb x y) (same_word xs ys) false
