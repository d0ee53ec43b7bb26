-- The number that a word of a script stands for: decimal digits, or lower-case hexadecimal ones after `0x`.
use Rattle.std.specs.Prelude.{Bool, List, [], ◌∷◌, ℕ, ◌+◌, ◌-◌, ◌*◌, eqb, ltb, leb, length, get_or, drop, Option, Some, None}
use Rattle.std.specs.Option.{option_and_then}
use Rattle.words.specs.Choice.{pick, both, within}

-- the value of a character from `0` (48) to `9` or from `a` (97) to `f`; any other is no digit in any base
abbrev pub digit_of : ℕ → Option ℕ
digit_of c = pick (within 48 57 c) (Some (c - 48)) (pick (within 97 102 c) (Some (c - 97 + 10)) None)

-- the number whose first digits make v, with these behind them: none if one is no digit of the base, or the number is above `most`
unfoldable pub read_digits : (base most : ℕ) → List ℕ → ℕ → Option ℕ
read_digits base most [] v = Some v
read_digits base most (c ∷ cs) v =
    option_and_then (λ d.
    pick (leb base d) None
    (pick (ltb most (v * base + d)) None
    (read_digits base most cs (v * base + d))))
    (digit_of c)

-- a number has a digit
unfoldable pub digits_of : (base most : ℕ) → List ℕ → Option ℕ
digits_of base most [] = None
digits_of base most (c ∷ cs) = read_digits base most (c ∷ cs) 0

-- whether a word starts with `0x`
unfoldable pub is_hexadecimal : List ℕ → Bool
is_hexadecimal w = both (leb 2 (length w)) (both (eqb (get_or w 0 0) 48) (eqb (get_or w 1 0) 120))

unfoldable pub number_of : ℕ → List ℕ → Option ℕ
number_of most w = pick (is_hexadecimal w) (digits_of 16 most (drop 2 w)) (digits_of 10 most w)
