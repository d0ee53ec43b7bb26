-- A byte rule on some places of a record only; and what the leaves ask of the bytes that they change.
use Rattle.std.specs.Prelude.{◌≡◌, List, ℕ, ◌+◌, ◌%◌, ◌≤◌, eqb, ltb, length, get_or}
use Rattle.words.specs.Choice.{pick}
use Rattle.burst_table.specs.Sizes.{burst_size, slot_room}
use Rattle.byte_rule.specs.Taken.{word_of}

-- f on the bytes of the word at w
unfoldable pub on_word : ℕ → (ℕ → ℕ → ℕ) → ℕ → ℕ → ℕ
on_word w f i b = pick (eqb (word_of i) w) (f i b) b

-- f on the bytes before n
unfoldable pub before : ℕ → (ℕ → ℕ → ℕ) → ℕ → ℕ → ℕ
before n f i b = pick (ltb i n) (f i b) b

-- every byte is the image's
unfoldable pub image_byte : List ℕ → ℕ → ℕ → ℕ
image_byte image i b = get_or image i 0

-- p is one burst, which stands at offset first of its record
pub record Burst (p : List ℕ) (first : ℕ) : Type 0 where
  pub long : length p ≡ burst_size
  pub aligned : first % burst_size ≡ 0
  pub inside : first + burst_size ≤ slot_room

-- and has a word at `at`
pub record Word (p : List ℕ) (first at : ℕ) : Type 0 where
  pub burst : Burst p first
  pub fits : at + 4 ≤ burst_size
  pub place : at % 4 ≡ 0
