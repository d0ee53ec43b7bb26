-- What the first word of a script's line asks for. The words are given by the codes of their characters.
use Rattle.std.specs.Prelude.{List, [], ◌∷◌, ℕ}
use Rattle.words.specs.Choice.{pick}
use Rattle.script_words.specs.Words.{same_word}
use Rattle.script_keywords.specs.declared.Call.TheVariants.{Command, Engine, Step, Collect, Reset}
use Rattle.script_keywords.specs.declared.Memory.TheVariants.{Lend, RowLength, RoomLength, StoreLength, Poke, Peek, Digest}
use Rattle.script_keywords.specs.declared.Device.TheVariants.{State, Slot, Show, Why}
use Rattle.script_keywords.specs.declared.Keyword.{Keyword}
use Rattle.script_keywords.specs.declared.Keyword.TheVariants as keyword

-- step
abbrev step_word : List ℕ
step_word = 115 ∷ 116 ∷ 101 ∷ 112 ∷ []

-- collect
abbrev collect_word : List ℕ
collect_word = 99 ∷ 111 ∷ 108 ∷ 108 ∷ 101 ∷ 99 ∷ 116 ∷ []

-- engine
abbrev engine_word : List ℕ
engine_word = 101 ∷ 110 ∷ 103 ∷ 105 ∷ 110 ∷ 101 ∷ []

-- command
abbrev command_word : List ℕ
command_word = 99 ∷ 111 ∷ 109 ∷ 109 ∷ 97 ∷ 110 ∷ 100 ∷ []

-- reset
abbrev reset_word : List ℕ
reset_word = 114 ∷ 101 ∷ 115 ∷ 101 ∷ 116 ∷ []

-- lend
abbrev lend_word : List ℕ
lend_word = 108 ∷ 101 ∷ 110 ∷ 100 ∷ []

-- rowlen
abbrev rowlen_word : List ℕ
rowlen_word = 114 ∷ 111 ∷ 119 ∷ 108 ∷ 101 ∷ 110 ∷ []

-- roomlen
abbrev roomlen_word : List ℕ
roomlen_word = 114 ∷ 111 ∷ 111 ∷ 109 ∷ 108 ∷ 101 ∷ 110 ∷ []

-- storelen
abbrev storelen_word : List ℕ
storelen_word = 115 ∷ 116 ∷ 111 ∷ 114 ∷ 101 ∷ 108 ∷ 101 ∷ 110 ∷ []

-- poke
abbrev poke_word : List ℕ
poke_word = 112 ∷ 111 ∷ 107 ∷ 101 ∷ []

-- peek
abbrev peek_word : List ℕ
peek_word = 112 ∷ 101 ∷ 101 ∷ 107 ∷ []

-- digest
abbrev digest_word : List ℕ
digest_word = 100 ∷ 105 ∷ 103 ∷ 101 ∷ 115 ∷ 116 ∷ []

-- state
abbrev state_word : List ℕ
state_word = 115 ∷ 116 ∷ 97 ∷ 116 ∷ 101 ∷ []

-- slot
abbrev slot_word : List ℕ
slot_word = 115 ∷ 108 ∷ 111 ∷ 116 ∷ []

-- show
abbrev show_word : List ℕ
show_word = 115 ∷ 104 ∷ 111 ∷ 119 ∷ []

-- why
abbrev why_word : List ℕ
why_word = 119 ∷ 104 ∷ 121 ∷ []

-- what a call hands in and answers
unfoldable pub device_of : List ℕ → Keyword
device_of w =
    pick (same_word w state_word) (keyword.Device State)
    (pick (same_word w slot_word) (keyword.Device Slot)
    (pick (same_word w show_word) (keyword.Device Show)
    (pick (same_word w why_word) (keyword.Device Why) keyword.Unknown)))

-- what is in it
unfoldable pub contents_of : List ℕ → Keyword
contents_of w =
    pick (same_word w poke_word) (keyword.Memory Poke)
    (pick (same_word w peek_word) (keyword.Memory Peek)
    (pick (same_word w digest_word) (keyword.Memory Digest) (device_of w)))

-- how much memory there is, and how much is lent
unfoldable pub lengths_of : List ℕ → Keyword
lengths_of w =
    pick (same_word w lend_word) (keyword.Memory Lend)
    (pick (same_word w rowlen_word) (keyword.Memory RowLength)
    (pick (same_word w roomlen_word) (keyword.Memory RoomLength)
    (pick (same_word w storelen_word) (keyword.Memory StoreLength) (contents_of w))))

-- a call
unfoldable pub keyword_of : List ℕ → Keyword
keyword_of w =
    pick (same_word w step_word) (keyword.Call Step)
    (pick (same_word w collect_word) (keyword.Call Collect)
    (pick (same_word w engine_word) (keyword.Call Engine)
    (pick (same_word w command_word) (keyword.Call Command)
    (pick (same_word w reset_word) (keyword.Call Reset) (lengths_of w)))))
