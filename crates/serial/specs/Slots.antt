-- Calls on a machine with slots: what demand 3 looks at in it, the journal that its calls and answers make, and what each call
-- has to keep to. Definitions only; that such calls keep the invariant is `next` in Next.
--
-- A machine is shown by its views: before a call and after it, the records and the slots by number. A call together with its
-- answer gives a note, and the notes alone make the journal: nothing in it is taken from the machine's memory. Whether a
-- request accepted into a slot has finished by now, and with what answer, is read from the slots as they are (`stands`).
-- A machine is serial if each of its calls is one of seven events. Order of checks, choice of the slot, number and size of
-- bursts never enter: an event says what changed, and that nothing else did.
use Rattle.std.specs.Prelude.{◌≡◌, List, [], ◌∷◌, ◌++◌, map, ℕ}
use Rattle.std.proofs.Math.Decide.{ℕ_discrete}
use Rattle.serial.specs.Core.{Alike, Sys, Entry, refused, done, running, Store, Inv, Passes}
use Rattle.serial.specs.Burst.{Elsewhere}
use Rattle.serial.specs.Order.{Done}

module _ (S : Sys) where
  open S use {Rec, Contents, Req, Ans, Num, accepted, Prog, start, Writes, num, ans, eff, Mid}

  -- ended: its last burst has moved, and collecting it would give this answer
  pub data Slot : Type 0 where
    free : Slot
    runs : Req → Prog → Slot
    ended : Req → Ans → Slot

  pub record View : Type 0 where
    pub look : Rec → Contents
    pub slot : ℕ → Slot

  -- ---- The journal, from calls and answers

  pub data Note : Type 0 where
    -- a step, or a refusal for any reason but a record's state: no entry
    nothing : Note
    -- refused because of a record's state
    turned : Req → Num → Note
    -- accepted into a slot
    taken : Req → ℕ → Note
    -- accepted and done at once, without a slot
    at_once : Req → Ans → Note
    -- a slot was collected, with this answer
    collected : ℕ → Ans → Note

  pub data Item : Type 0 where
    off : Req → Num → Item
    gone : Req → Ans → Item
    -- accepted into this slot and not yet collected
    inside : Req → ℕ → Item

  abbrev pub settle_one : {j k : ℕ} → Dec (j ≡ k) → Ans → Req → Item
  settle_one {j} (yes e) a r = gone r a
  settle_one {j} (no e) a r = inside r j

  -- the request in slot k is gone, with this answer
  abbrev pub settle : ℕ → Ans → List Item → List Item
  settle k a [] = []
  settle k a (off r n ∷ J) = off r n ∷ settle k a J
  settle k a (gone r b ∷ J) = gone r b ∷ settle k a J
  settle k a (inside r j ∷ J) = settle_one (ℕ_discrete j k) a r ∷ settle k a J

  abbrev pub log : Note → List Item → List Item
  log nothing J = J
  log (turned r n) J = J ++ off r n ∷ []
  log (taken r k) J = J ++ inside r k ∷ []
  log (at_once r a) J = J ++ gone r a ∷ []
  log (collected k a) J = settle k a J

  -- the entry of a request that went into this slot; a free slot, which never occurs, counts as unfinished
  abbrev pub entry : Req → Slot → Entry S
  entry r free = running r start
  entry r (runs q p) = running r p
  entry r (ended q a) = done r a

  abbrev pub stand : (ℕ → Slot) → Item → Entry S
  stand v (off r n) = refused r n
  stand v (gone r a) = done r a
  stand v (inside r k) = entry r (v k)

  -- the journal of Core, as the slots now are
  abbrev pub stands : (ℕ → Slot) → List Item → List (Entry S)
  stands v J = map (stand v) J

  -- ---- What a call keeps to

  pub record Same (v u : View) : Type 0 where
    pub looks : (X : Rec) → u.look X ≡ v.look X
    pub slots : (j : ℕ) → u.slot j ≡ v.slot j

  -- r passes the holds of every running request
  abbrev pub PassesAll : View → Req → Type 0
  PassesAll v r = (j : ℕ) (q : Req) (p : Prog) → v.slot j ≡ runs q p → Passes S q r

  -- no slot changes but k
  abbrev pub But : ℕ → View → View → Type 0
  But k v u = (j : ℕ) → ¬ (j ≡ k) → u.slot j ≡ v.slot j

  -- A call, from the view v to the view u: its note, and the requests that it finishes.
  pub data Event (v u : View) : Note → List (Done S) → Type 0 where
    -- a refusal for any reason but a record's state, or a call that does nothing
    idle : (same : Same v u) → Event v u nothing []
    -- a refusal because of a record's state: after the holds were passed, with the book's verdict on the store as it is
    turn : {r : Req} {n : Num} (same : Same v u) (passes : PassesAll v r) (verdict : num r v.look ≡ n) → Event v u (turned r n) []
    -- accepted into the free slot k at the progress p, from which all is still to be done; no record changes
    take : {r : Req} {k : ℕ} (p : Prog) (looks : (X : Rec) → u.look X ≡ v.look X) (was : v.slot k ≡ free) (is : u.slot k ≡ runs r p)
        (others : But k v u) (passes : PassesAll v r) (verdict : num r v.look ≡ accepted) (begun : Mid r p v.look v.look)
        → Event v u (taken r k) []
    -- accepted and done whole in this call, with no slot
    once : {r : Req} {a : Ans} (effect : (X : Rec) → u.look X ≡ eff r v.look X) (slots : (j : ℕ) → u.slot j ≡ v.slot j)
        (passes : PassesAll v r) (verdict : num r v.look ≡ accepted) (answer : ans r v.look ≡ a)
        → Event v u (at_once r a) (record { what = r; gave = a } ∷ [])
    -- a burst of slot k that is not its last: nothing changes but what r writes, and wherever r began, it is still under way
    step : (r : Req) (k : ℕ) (p p' : Prog) (was : v.slot k ≡ runs r p) (is : u.slot k ≡ runs r p') (others : But k v u)
        (frame : Elsewhere S r v.look u.look) (under_way : (t : Store S) → Mid r p t v.look → Mid r p' t u.look)
        → Event v u nothing []
    -- the last burst: wherever r began, the answer and what r writes are now the book's
    last : (r : Req) (k : ℕ) (p : Prog) (a : Ans) (was : v.slot k ≡ runs r p) (is : u.slot k ≡ ended r a) (others : But k v u)
        (frame : Elsewhere S r v.look u.look)
        (result : (t : Store S) → Mid r p t v.look → (ans r t ≡ a) × Alike (Writes r) u.look (eff r t))
        → Event v u nothing (record { what = r; gave = a } ∷ [])
    -- an ended slot is freed, and the answer that it had is written
    collect : (r : Req) {k : ℕ} {a : Ans} (was : v.slot k ≡ ended r a) (is : u.slot k ≡ free) (others : But k v u)
        (looks : (X : Rec) → u.look X ≡ v.look X)
        → Event v u (collected k a) []

  -- ---- What every event keeps

  abbrev pub keep : {j k : ℕ} → Dec (j ≡ k) → Req → List Req → List Req
  keep (yes e) r l = r ∷ l
  keep (no e) r l = l

  -- who is in slot k, by the journal
  abbrev pub owners : ℕ → List Item → List Req
  owners k [] = []
  owners k (off r n ∷ J) = owners k J
  owners k (gone r a ∷ J) = owners k J
  owners k (inside r j ∷ J) = keep (ℕ_discrete j k) r (owners k J)

  -- and by the slot
  abbrev pub holder : Slot → List Req
  holder free = []
  holder (runs r p) = r ∷ []
  holder (ended r a) = r ∷ []

  -- The invariant of Core for the journal as it stands. And the journal's items in slot k are the slot's request: one equation
  -- says that they are the same request, that there is at most one of them, and that no occupied slot is missing.
  pub record Keeps (s : Store S) (v : View) (J : List Item) : Type 0 where
    pub inv : Inv S s v.look (stands v.slot J)
    pub own : (k : ℕ) → owners k J ≡ holder (v.slot k)
