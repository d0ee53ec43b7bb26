-- Every list of calls at all, from every world at all: with fresh starts and drops inside it.
--
-- Demand 3 is owed from an initialisation on, until a reset drops everything; then it begins again at the next initialisation. A
-- ledger says where a run is in this: `shut`, nothing is owed; or `kept`, with the store of the last fresh start and the journal
-- since. A fresh start may come in the middle of a run, at an initialisation or any other call that leaves every slot free. The
-- requests before it no longer count, and the book starts from the records it left.
--
-- Demand 3 of document 01 ends its lists of calls where the next begins, and does not use this. Request 4 (pages of host memory) needs
-- `afresh`: after a change of the map only the requests since then count. So does request 12, where loading a text begins a list too;
-- and a call that is several moves (`Moves`) is a turn of request 11. The example of this crate is run by it.
use Rattle.std.specs.Prelude.{◌≡◌, List, [], ℕ}
use Rattle.serial.specs.Core.{Sys, Store, Claims}
use Rattle.serial.specs.Order.{Done}
use Rattle.serial.specs.Slots.{free, View, Note, Item, log, stands, Event, Keeps}
use Rattle.serial.proofs.Next.{next, begin, keeps_claims}

module _ (S : Sys) where
  pub data Ledger : Type 0 where
    shut : Ledger
    kept : Store S → List (Item S) → Ledger

  -- what a call and its answer say
  pub data Mark : Type 0 where
    note : Note S → Mark
    afresh : Mark
    dropped : Mark

  -- the ledger after a call that left the view u
  abbrev pub enter : View S → Mark → Ledger → Ledger
  enter u (note n) shut = shut
  enter u (note n) (kept s J) = kept s (log S n J)
  enter u afresh l = kept u.look []
  enter u dropped l = shut

  -- what a call keeps to: an event; a fresh start leaves every slot free; of a drop nothing is asked
  pub data Move (v u : View S) : Mark → Type 0 where
    event : {n : Note S} {f : List (Done S)} → Event S v u n f → Move v u (note n)
    fresh : ((j : ℕ) → u.slot j ≡ free) → Move v u afresh
    drop : Move v u dropped

  -- several moves, as a list of calls, or one call that is several moves (a request run whole); from one ledger to another
  pub data Moves : View S → Ledger → View S → Ledger → Type 0 where
    stop : {v : View S} {l : Ledger} → Moves v l v l
    then : {v u x : View S} {l m : Ledger} {k : Mark} → Move v u k → Moves u (enter u k l) x m → Moves v l x m

  -- what is owed of a view
  abbrev pub Owed : View S → Ledger → Type 0
  Owed v shut = Unit {0}
  Owed v (kept s J) = Claims S s v.look (stands S v.slot J)

  abbrev pub Kept : View S → Ledger → Type 0
  Kept v shut = Unit {0}
  Kept v (kept s J) = Keeps S s v J

  pub kept_owed : (v : View S) (l : Ledger) → Kept v l → Owed v l
  kept_owed v shut k = tt
  kept_owed v (kept s J) k = keeps_claims S s v J k

  pub move : (v u : View S) (l : Ledger) {m : Mark} → Move v u m → Kept v l → Kept u (enter u m l)
  move v u shut (event e) k = tt
  move v u (kept s J) (event e) k = next S s v u J k e
  move v u shut (fresh h) k = begin S u h
  move v u (kept s J) (fresh h) k = begin S u h
  move v u shut drop k = tt
  move v u (kept s J) drop k = tt

  pub moves : {v u : View S} {l m : Ledger} → Moves v l u m → Kept v l → Kept u m
  moves stop k = k
  moves (then {v = v} {u = u} {l = l} c cs) k = moves cs (move v u l c k)

  -- from anywhere, with nothing owed at first
  pub owed : (v u : View S) (l : Ledger) → Moves v shut u l → Owed u l
  owed v u l c = kept_owed u l (moves c tt)
