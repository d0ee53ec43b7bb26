-- The numbers of a script's line: the words from one on, each a number of 32 bits, up to eight of them, in a list of eight.
use Rattle.std.specs.Prelude.{List, ℕ, zero, suc, ◌+◌, eqb, leb, get_or, set, replicate, Option, Some, None}
use Rattle.std.specs.Option.{option_and_then}
use Rattle.words.specs.Choice.{pick, both}
use Rattle.script_words.specs.Words.{spaces, word_at}
use Rattle.script_numbers.specs.Numbers.{number_of}

-- word k as a number of 32 bits
abbrev pub number_at : List ℕ → ℕ → Option ℕ
number_at l k = number_of 0xffffffff (word_at k l)

-- n numbers, of the words from k on, put into the list from place i on
unfoldable pub numbers_from : (n : ℕ) → List ℕ → (k i : ℕ) → List ℕ → Option (List ℕ)
numbers_from zero l k i at = Some at
numbers_from (suc n) l k i at = option_and_then (λ x. numbers_from n l (k + 1) (i + 1) (set at i x)) (number_at l k)

-- all words of the line from `from` on, if there are `count` of them
unfoldable pub numbers_of : List ℕ → (from count : ℕ) → Option (List ℕ)
numbers_of l from count =
    pick (both (eqb (spaces l + 1) (from + count)) (leb count 8)) (numbers_from count l from 0 (replicate 8 0)) None

-- number j of a line
abbrev pub nth : List ℕ → ℕ → ℕ
nth n j = get_or n j 0
