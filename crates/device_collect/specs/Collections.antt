-- A collection from a row by value, as its tests find it: what is handed back makes the collection, and the slot that was looked up.
use Rattle.std.specs.Prelude.{◌≡◌, Bool, false, List, ℕ, ◌≤◌, ◌<◌, length, get_or, set, Ok}
use Rattle.std.proofs.Common.{◌∙◌, ap}
use Rattle.words.specs.Parts.{splice}
use Rattle.requests.specs.declared.Request.{Request}
use Rattle.answers.specs.Answers.{answer_of, answer_size}
use Rattle.burst_table.specs.Sizes.{slot_count, room_size}
use Rattle.bursts.specs.Room.{room_of}
use Rattle.slots.specs.Slots.{slot, freed}
use Rattle.slots.specs.declared.Slot.{Slot}
use Rattle.slots.specs.declared.Status.TheVariants.{Free, Running, Finished}
use Rattle.possible.specs.Possible.{impossible}
use Rattle.possible.specs.declared.Hca.{Hca}
use Rattle.rules.specs.declared.Refusal.{Refusal}
use Rattle.rules.specs.declared.Refusal.TheVariants as cause
use Rattle.rules.specs.World.{world}
use Rattle.rules.specs.Collections.{Collected as After, collected, collect_refused, collect_on, collect_of}
use Rattle.rules.proofs.Laws.Lent.{lent_sized}
use Rattle.lengths.specs.Lengths.{lengths_wrong}
use Rattle.lengths.proofs.Lengths.{lent_told, passing}
use Rattle.handed_back.specs.Handed.{collect_handed, collect_refusal}
use Rattle.handed_back.proofs.Handed.{collect_refusal_lem}
use Rattle.handed_back.specs.declared.HandedBack.{HandedBack}
use Rattle.answering.specs.Answered.{Answerable}
use Rattle.answering.specs.Collections as made

-- slot k, looked up in a row of eight slots, and their room
pub record LookedUp (row : List Slot) (room : List ℕ) (k : ℕ) (s : Slot) : Type 0 where
  pub rowed : length row ≡ slot_count
  pub roomed : room_size ≤ length room
  pub is : s ≡ get_or row k (slot Free)

-- ---- what is handed back makes the collection

module _ {row : List Slot} {room : List ℕ} {k : ℕ} {s : Slot} (found : LookedUp row room k s) where
  pub answerable : {m : ℕ} {q : Request} → s.status ≡ Finished m q → (out : List ℕ) (size : ℕ) → size ≡ answer_size q
      → size ≤ length out → Answerable room k q out
  answerable done out size n l = made.answerable row found.rowed found.roomed found.is done out size n l

  module _ (h : Hca) (store out : List ℕ) where
    pub on_free : s.status ≡ Free → (r : HandedBack ℕ) → r ≡ collect_refusal row cause.NoRequest
        → collect_handed h row store room out r ≡ collect_on (world h row store room) k out s.status
    on_free e r f =
        collect_refusal_lem h row store room out cause.NoRequest r f ∙ made.on_free (world h row store room) k out s.status e

    pub on_running : {m : ℕ} {q : Request} → s.status ≡ Running m q → (r : HandedBack ℕ) → r ≡ collect_refusal row cause.StillRunning
        → collect_handed h row store room out r ≡ collect_on (world h row store room) k out s.status
    on_running e r f =
        collect_refusal_lem h row store room out cause.StillRunning r f ∙ made.on_running (world h row store room) k out s.status e

    module _ {m : ℕ} {q : Request} (done : s.status ≡ Finished m q) (size : ℕ) (size_is : size ≡ answer_size q) where
      pub on_short : length out < size → (r : HandedBack ℕ) → r ≡ collect_refusal row cause.ShortBuffer
          → collect_handed h row store room out r ≡ collect_on (world h row store room) k out s.status
      on_short l r f =
          collect_refusal_lem h row store room out cause.ShortBuffer r f
          ∙ made.on_short (world h row store room) k out s.status done size size_is l

      pub on_collected : size ≤ length out → (written : List ℕ) → written ≡ splice 0 (answer_of q (room_of k room)) out
          → (f : Slot) → f ≡ freed s
          → collected (Ok size) (world h (set row k f) store room) written
          ≡ collect_on (world h row store room) k out s.status
      on_collected l written e f g =
          made.on_collected (world h row store room) k out s.status done size size_is l written e f (g ∙ ap freed found.is)

-- ---- the first tests, as the calls answered them

module _ (h : Hca) (row : List Slot) (store room out : List ℕ) where
  pub collect_refused_lem : (c : Refusal) (r : HandedBack ℕ) (y : After) → r ≡ collect_refusal row c
      → collect_refused (world h row store room) out c ≡ y → collect_handed h row store room out r ≡ y
  collect_refused_lem c r y e f = collect_refusal_lem h row store room out c r e ∙ f

  module _ (k : ℕ) (a b : Bool) (s : Slot) (n : length row ≡ slot_count) (a-is : a ≡ lengths_wrong h (length store) (length room))
      (a-no : a ≡ false) (s-is : s ≡ get_or row k (slot Free)) where
    pub looked_up : LookedUp row room k s
    looked_up =
        record {
          rowed = n;
          roomed = (lent_sized (world h row store room) (lent_told h row store room a false n a-is a-no)).roomed;
          is = s-is;
        }

    pub collect_goes : b ≡ impossible h row → b ≡ false → (y : After) → y ≡ collect_on (world h row store room) k out s.status
        → y ≡ collect_of (world h row store room) k out
    collect_goes b-is b-no y e =
        made.collect_goes (world h row store room) k out s y (passing h row store room a b n a-is a-no b-is b-no) s-is e
