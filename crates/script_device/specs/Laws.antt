-- What the readers of a line have in hand, turned into what the definitions ask.
use Rattle.std.specs.Prelude.{◌≡◌, Bool, true, false, List, ℕ, ◌≤◌, eqb, ltb, Option, Some, None, refl, option_and_then}
use Rattle.std.proofs.Common.{sym, ◌∙◌, ap, eq-eqb, ne_eqb, le-ltb}
use Rattle.words.proofs.Choice.{pick_no}
use Rattle.script_words.specs.Words.{same_word}
use Rattle.script_lines.specs.Lines.{nth}
use Rattle.slot_requests.specs.Requests.{command_in}
use Rattle.requests.specs.declared.Request.{Request}
use Rattle.script_device.specs.Slots.{occupied_as, command_slot}
use Rattle.slots.specs.declared.Slot.{Slot}

-- a word that was taken out of the line and compared
pub word_told : (b t : Bool) (w x k : List ℕ) → b ≡ same_word w k → w ≡ x → b ≡ t → same_word x k ≡ t
word_told b t w x k e p q = sym (e ∙ ap (λ (y : List ℕ). same_word y k) p) ∙ q

-- a number that was counted and compared
pub count_is : (w s k : ℕ) → w ≡ s → w ≡ k → eqb s k ≡ true
count_is w s k e p = eq-eqb s k (sym e ∙ p)

pub count_other : (w s k : ℕ) → w ≡ s → (w ≡ k → ⊥) → eqb s k ≡ false
count_other w s k e n = ne_eqb s k (λ (p : s ≡ k). n (e ∙ p))

pub request_read : (how : List ℕ) (moved : ℕ) (f g : Option Request) (r : Option Slot) → f ≡ g → r ≡ occupied_as how moved f → r ≡ occupied_as how moved g
request_read how moved f g r e k = k ∙ ap (occupied_as how moved) e

-- a command's numbers that are all in their ranges
pub command_placed : (how n : List ℕ) (f : Option Request) (r : Option Slot) → nth n 0 ≤ 0xfff → nth n 1 ≤ 255 → nth n 3 ≤ 255
    → f ≡ command_in (nth n 0) (nth n 1) (nth n 2) → r ≡ occupied_as how (nth n 3) f → r ≡ command_slot how n
unfolding command_slot
command_placed how n f r a b d e k =
    pick_no (ltb 0xfff (nth n 0)) _ _ _ (le-ltb 0xfff (nth n 0) a)
    (pick_no (ltb 255 (nth n 1)) _ _ _ (le-ltb 255 (nth n 1) b)
    (pick_no (ltb 255 (nth n 3)) _ _ _ (le-ltb 255 (nth n 3) d)
    (request_read how (nth n 3) f (command_in (nth n 0) (nth n 1) (nth n 2)) r e k)))

-- a slot from a word and the numbers of a line
pub slot_read : (f : List ℕ → Option (List ℕ) → Option Slot) (w x : List ℕ) (n m : Option (List ℕ)) (r : Option Slot) → w ≡ x → n ≡ m → r ≡ f w n
    → r ≡ f x m
slot_read f w x n m r p q k = k ∙ (λ j. f (p j) (q j))

-- a line that has its numbers
pub slot_some : (f : List ℕ → List ℕ → Option Slot) (w x n : List ℕ) (m o : Option (List ℕ)) (r : Option Slot) → w ≡ x → m ≡ o → m ≡ Some n
    → r ≡ f w n → r ≡ option_and_then (f x) o
slot_some f w x n m o r p e q k = rw (sym e ∙ q, sym p) k

-- a line whose numbers are none
pub slot_none : (f : List ℕ → Option Slot) (m o : Option (List ℕ)) → m ≡ o → m ≡ None → None ≡ option_and_then f o
slot_none f m o e q = rw (sym e ∙ q) refl
