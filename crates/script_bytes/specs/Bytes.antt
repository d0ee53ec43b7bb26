-- The bytes that a word of a script stands for, and the text of bytes: two digits for each, the high one first.
use Rattle.std.specs.Prelude.{◌≡◌, Bool, true, false, List, [], ◌∷◌, ℕ, ◌+◌, ◌*◌, ◌/◌, ◌%◌, ◌≤◌, min, eqb, ltb, leb, length, get_or, take, Option, Some, None, is_some, unwrap_or}
use Rattle.words.specs.Choice.{pick}
use Rattle.script_words.specs.Words.{same_word}
use Rattle.script_numbers.specs.Numbers.{digit_of}

-- whether each character is a digit
unfoldable pub all_digits : List ℕ → Bool
all_digits [] = true
all_digits (x ∷ xs) = pick (is_some (digit_of x)) (all_digits xs) false

-- how many bytes a word stands for: none if it is `-` (45); else it has a digit, and two for each byte
unfoldable pub count_of : List ℕ → Option ℕ
count_of w =
    pick (same_word w (45 ∷ [])) (Some 0)
    (pick (eqb (length w) 0) None
    (pick (eqb (length w % 2) 0) (pick (all_digits w) (Some (length w / 2)) None) None))

-- the byte of two digits. A character that is none, which `count_of` refuses, counts as 15
abbrev pub pair_of : ℕ → ℕ → ℕ
pair_of high low = unwrap_or (digit_of high) 15 % 16 * 16 + unwrap_or (digit_of low) 15 % 16

-- byte i of what a word stands for; where it has none, the byte that was there
abbrev pub byte_of : List ℕ → ℕ → ℕ → ℕ
byte_of w i old = pick (leb (length w / 2) i) old (pair_of (get_or w (2 * i) 0) (get_or w (2 * i + 1) 0))

-- the character of a digit below 16
abbrev pub character_of : ℕ → ℕ
character_of d = pick (ltb d 10) (d + 48) (d % 16 + 87)

-- character j of the text of bytes; where there is none, what was there
abbrev pub text_of : List ℕ → ℕ → ℕ → ℕ
text_of bytes j old =
    pick (leb (length bytes) (j / 2)) old
    (pick (eqb (j % 2) 0) (character_of (get_or bytes (j / 2) 0 / 16)) (character_of (get_or bytes (j / 2) 0 % 16)))

-- r is the lesser of n and the length of l. The last two parts follow from the first; they are there for `&l[..r]`
abbrev pub Front : ℕ → List ℕ → ℕ → Type 0
Front n l r = (r ≡ min n (length l)) × (r ≤ length l) × (r ≡ length (take r l))
