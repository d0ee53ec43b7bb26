-- LINKS AND CHAINS: what is known of one call of an operation, and of calls of the operations one after the other.
--
-- A link is one call of one operation. Its premise is the operation's `ensures`, of what that call was handed and lent and of what it
-- handed back and left; nothing else is known of the call. An operation that ensures less gives no link.
-- A chain is a list of calls that were made, each with its own answer and the world that it left. Each has its link, and each gets the
-- state, row, store and room that the call before it left.
use Rattle.std.specs.Prelude.{◌≡◌, Bool, false, List, [], ◌∷◌, ℕ, Result}
use Rattle.words.specs.Choice.{pick}
use Rattle.context.specs.declared.Logs.{Logs}
use Rattle.slots.specs.declared.Slot.{Slot}
use Rattle.possible.specs.declared.Hca.{Hca}
use Rattle.rules.specs.World.{World, world}
use Rattle.rules.specs.Admission as admission
use Rattle.rules.specs.Commands.{submit_command}
use Rattle.rules.specs.Engines.{submit_engine}
use Rattle.rules.specs.Steps as steps
use Rattle.rules.specs.Steps.{step_of}
use Rattle.rules.specs.Collections as collections
use Rattle.rules.specs.Collections.{collect_of}
use Rattle.rules.specs.Resets as resets
use Rattle.rules.specs.Resets.{reset_of}
use Rattle.rules.specs.Calls.{Call, command, engine_request, step, collection, resetting}
use Rattle.rules.specs.Calls.{Answer, submitted, stepped, collected, reset_done, note_of, command_asked, is_init, is_done, reset_ends}
use Rattle.rules.specs.Lending.{Lent, lend, give_back}
use Rattle.rules.specs.Demand3.{Entry, noted}
use Rattle.rules.specs.declared.Refusal.{Refusal}
use Rattle.rules.specs.declared.Submission.{Submission}
use Rattle.handed_back.specs.declared.Submitted.{Submitted}
use Rattle.handed_back.specs.declared.HandedBack.{HandedBack}
use Rattle.handed_back.specs.declared.WasReset.{WasReset}
use Rattle.handed_back.specs.Handed.{submit_handed, step_handed, collect_handed, reset_handed}

-- ---- one call

-- A form of the operations says what is known of their calls: lent this world, this call gave this answer and left that world.
abbrev pub Form : Type 1
Form = World → Call → Answer → World → Type 0

-- The operations that take the row by value and hand back the slot that may have changed (handed_back). One constructor for each, over
-- what a call of it was handed and lent (state, row, store, room, its own input), what it handed back (r) and what it left: `store` is
-- `now store.entry` of the contract and `storeLeft` is `now store.exit`, and so for room and buffer. What it was lent only to read
-- it left. Such a row has eight slots; that is not needed here.
pub data Link : World → Call → Answer → World → Type 0 where
  command_link : (hca : Hca) (row : List Slot) (store room bytes mail : List ℕ) (r : Submitted) (storeLeft room_left : List ℕ)
      → submit_handed row storeLeft room_left r ≡ submit_command (world hca row store room) bytes mail
      → Link (world hca row store room) (command bytes mail) (submitted r.answer) (submit_handed row storeLeft room_left r).world
  engine_link : (hca : Hca) (row : List Slot) (store room : List ℕ) (number index psn state : ℕ) (r : Submitted)
      (storeLeft room_left : List ℕ)
      → submit_handed row storeLeft room_left r ≡ submit_engine (world hca row store room) number index psn state
      → Link (world hca row store room) (engine_request number index psn state) (submitted r.answer)
      (submit_handed row storeLeft room_left r).world
  step_link : (hca : Hca) (row : List Slot) (store room : List ℕ) (k : ℕ) (r : HandedBack ℕ) (storeLeft room_left : List ℕ)
      → step_handed hca row storeLeft room_left r ≡ step_of (world hca row store room) k
      → Link (world hca row store room) (step k) (stepped r.answer) (step_handed hca row storeLeft room_left r).world
  collect_link : (hca : Hca) (row : List Slot) (store room : List ℕ) (k : ℕ) (out : List ℕ) (r : HandedBack ℕ) (outLeft : List ℕ)
      → collect_handed hca row store room outLeft r ≡ collect_of (world hca row store room) k out
      → Link (world hca row store room) (collection k out) (collected r.answer outLeft)
      (collect_handed hca row store room outLeft r).world
  reset_link : (hca : Hca) (row : List Slot) (store room : List ℕ) (r : WasReset)
      → reset_handed store room r ≡ reset_of (world hca row store room)
      → Link (world hca row store room) resetting (reset_done r.answer) (reset_handed store room r).world

-- What every form has to give: the answer and the world left, put together, are the result that the rules give. An operation that is lent
-- the row, as it is lent store and room, ensures just this, of its answer and of what row, store and room are at its exit.
pub data Promised : World → Call → Answer → World → Type 0 where
  command_promised : {u v : World} {bytes mail : List ℕ} {a : Result Submission Refusal}
      → admission.submitted a v ≡ submit_command u bytes mail → Promised u (command bytes mail) (submitted a) v
  engine_promised : {u v : World} {number index psn state : ℕ} {a : Result Submission Refusal}
      → admission.submitted a v ≡ submit_engine u number index psn state
      → Promised u (engine_request number index psn state) (submitted a) v
  step_promised : {u v : World} {k : ℕ} {a : Result ℕ Refusal} → steps.stepped a v ≡ step_of u k → Promised u (step k) (stepped a) v
  collect_promised : {u v : World} {k : ℕ} {out outLeft : List ℕ} {a : Result ℕ Refusal}
      → collections.collected a v outLeft ≡ collect_of u k out → Promised u (collection k out) (collected a outLeft) v
  reset_promised : {u v : World} {a : Result (Unit {0}) Refusal} → resets.resetted a v ≡ reset_of u → Promised u resetting (reset_done a) v

-- ---- calls one after the other

-- a call that was made: how much it was lent, its input, its own answer, and what it left of what it was lent
pub record Made : Type 0 where
  pub lent : Lent
  pub call : Call
  pub answer : Answer
  pub left : World

-- its link, where the state was that of w and the front of w's row, store and room was lent
abbrev pub Linked : Form → World → Made → Type 0
Linked F w m = F (lend m.lent w) m.call m.answer m.left

-- the world after it: the state that it handed back, what it left, and behind that what it was not lent
abbrev pub after : World → Made → World
after w m = give_back m.lent w m.left

-- ---- where a chain begins and where it ends, by a call and its own answer; g has the counts before the call, as for `note_of`

-- An initialisation is an INIT_HCA that answers 0 (01, The plain book of demand 3).
abbrev pub is_initialisation : Logs → Call → Answer → Bool
is_initialisation g (command bytes mail) (submitted a) = pick (is_init (command_asked g bytes)) (is_done a) false
is_initialisation g (command bytes mail) (stepped a) = false
is_initialisation g (command bytes mail) (collected a out) = false
is_initialisation g (command bytes mail) (reset_done a) = false
is_initialisation g (engine_request number index psn state) a = false
is_initialisation g (step k) a = false
is_initialisation g (collection k out) a = false
is_initialisation g resetting a = false

-- A chain goes up to the next initialisation, or to a reset that answers 0: that one drops requests and leaves in their records what their
-- bursts made, so "demand 3 begins again at the next INIT_HCA" (01, Bursts, slots and holds). A reset that is refused is a call like
-- others.
abbrev pub ends_chain : Logs → Call → Answer → Bool
ends_chain g (command bytes mail) a = is_initialisation g (command bytes mail) a
ends_chain g (engine_request number index psn state) a = false
ends_chain g (step k) a = false
ends_chain g (collection k out) a = false
ends_chain g resetting (submitted a) = false
ends_chain g resetting (stepped a) = false
ends_chain g resetting (collected a out) = false
ends_chain g resetting (reset_done a) = reset_ends a

-- ---- the chain

-- the calls ms, from the world w on: the first has its link and does not end the chain, and the others go on from the world after it
pub data Chain (F : Form) : World → List Made → Type 0 where
  none : {w : World} → Chain F w []
  next : {w : World} {m : Made} {ms : List Made}
      → Linked F w m → ends_chain w.hca.logs m.call m.answer ≡ false → Chain F (after w m) ms → Chain F w (m ∷ ms)

-- the world at its end
abbrev pub end_of : World → List Made → World
end_of w [] = w
end_of w (m ∷ ms) = end_of (after w m) ms

-- its journal: J, with what the chain's own calls and answers say of requests noted in it, one call after the other
abbrev pub journal_of : World → List Entry → List Made → List Entry
journal_of w J [] = J
journal_of w J (m ∷ ms) = journal_of (after w m) (noted (note_of w.hca.logs m.call m.answer) J) ms
