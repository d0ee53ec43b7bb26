-- The slot that a script's line hands in. Numbers that are not in their ranges, and words that are none of the format, are wrong.
use Rattle.std.specs.Prelude.{List, [], ◌∷◌, ℕ, ◌+◌, eqb, ltb, Option, Some, None}
use Rattle.std.specs.Option.{option_and_then}
use Rattle.words.specs.Choice.{pick}
use Rattle.script_words.specs.Words.{spaces, word_at, same_word}
use Rattle.script_lines.specs.Lines.{nth, numbers_of}
use Rattle.slot_requests.specs.Requests.{command_in, engine_in}
use Rattle.slots.specs.Slots.{slot}
use Rattle.slots.specs.declared.Status.TheVariants.{Free, Running, Finished}
use Rattle.slots.specs.declared.Slot.{Slot}
use Rattle.requests.specs.declared.Request.{Request}

-- running and finished, by the codes of their characters
abbrev running_word : List ℕ
running_word = 114 ∷ 117 ∷ 110 ∷ 110 ∷ 105 ∷ 110 ∷ 103 ∷ []

abbrev finished_word : List ℕ
finished_word = 102 ∷ 105 ∷ 110 ∷ 105 ∷ 115 ∷ 104 ∷ 101 ∷ 100 ∷ []

-- a slot with this request: `running` or `finished`, with so many bursts moved
unfoldable pub placed_as : (how : List ℕ) (moved : ℕ) → Request → Option Slot
placed_as how moved r =
    pick (same_word how running_word) (Some (slot (Running moved r)))
    (pick (same_word how finished_word) (Some (slot (Finished moved r))) None)

abbrev pub occupied_as : (how : List ℕ) (moved : ℕ) → Option Request → Option Slot
occupied_as how moved (Some r) = placed_as how moved r
occupied_as how moved None = None

-- `slot K running command OP MOD INDEX MOVED`, and likewise `finished`
unfoldable pub command_slot : (how numbers : List ℕ) → Option Slot
command_slot how n =
    pick (ltb 0xfff (nth n 0)) None
    (pick (ltb 255 (nth n 1)) None
    (pick (ltb 255 (nth n 3)) None (occupied_as how (nth n 3) (command_in (nth n 0) (nth n 1) (nth n 2)))))

-- `slot K running engine NUMBER INDEX PSN STATE MOVED`, and likewise `finished`; `CQ EQ` stand for `PSN STATE` where NUMBER is 7
-- (02, wish 2)
unfoldable pub engine_slot : (how numbers : List ℕ) → Option Slot
engine_slot how n =
    pick (ltb 255 (nth n 4)) None (occupied_as how (nth n 4) (engine_in (nth n 0) (nth n 1) (nth n 2) (nth n 3)))

-- `slot K free`: three words
abbrev pub free_slot : List ℕ → Option Slot
free_slot l = pick (eqb (spaces l + 1) 3) (Some (slot Free)) None

-- free, command and engine, by the codes of their characters
abbrev free_word : List ℕ
free_word = 102 ∷ 114 ∷ 101 ∷ 101 ∷ []

abbrev command_word : List ℕ
command_word = 99 ∷ 111 ∷ 109 ∷ 109 ∷ 97 ∷ 110 ∷ 100 ∷ []

abbrev engine_word : List ℕ
engine_word = 101 ∷ 110 ∷ 103 ∷ 105 ∷ 110 ∷ 101 ∷ []

-- the slot of a `slot` line
unfoldable pub slot_in : List ℕ → Option Slot
slot_in l =
    pick (same_word (word_at 2 l) free_word) (free_slot l)
    (pick (same_word (word_at 3 l) command_word) (option_and_then (command_slot (word_at 2 l)) (numbers_of l 4 4))
    (pick (same_word (word_at 3 l) engine_word) (option_and_then (engine_slot (word_at 2 l)) (numbers_of l 4 5)) None))
