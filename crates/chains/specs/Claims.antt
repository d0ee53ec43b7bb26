-- THE CLAIMS about chains of calls. Each is stated of a form F of the operations; the operations that there are have the form `Link`.
--
-- What is claimed, and of what: of any memory, a first call that is an initialisation, and every chain of calls after it, of any length.
-- Each call is any of the five operations with any input, and is lent the eight slots of the row and a front of any length of store and
-- room (of the row too, where a form lends it). All that is known of it is what its operation ensures. Then:
-- * `States`, demand 2's edges: of the next call, between the chain's last world and the world that this call leaves. The front of a
--   chain is a chain (`Fronts`), so every call of the chain is such a next call.
-- * `Serial`, demand 3: of the chain's own last world, and of the journal of its own calls and answers.
-- * `Holding`: while a joined read runs, the names in its slot are those in the store, and those that the book finds at its place.
-- * `Zeroed`: the book of demand 3 starts with records that are all zero.
-- And of one call, in a chain or not: `Fixed`, it answers and leaves what the rules say; `Refusals`, a refusal leaves everything.
-- `States`, `Serial`, `Holding` and `Zeroed` speak of the worlds, answers and journal of the calls that were made, not of those of the
-- rules.
--
-- What is not claimed: anything of calls between which somebody else writes the lent memory, or of a call that is handed another state or
-- row than the call before left; such a call is one of another chain. Of calls between a reset that answers 0 and the next initialisation
-- only what is claimed of one call.
use Rattle.std.specs.Prelude.{◌≡◌, true, false, List, [], ◌∷◌, ◌++◌, ℕ, replicate}
use Rattle.context.specs.Layout.{is_record, record_size}
use Rattle.context.specs.declared.QpNumber.{QpNumber}
use Rattle.context.specs.declared.Record.{Record}
use Rattle.context.specs.declared.Record.TheVariants as rec
use Rattle.checks.specs.Fields.{state_of, service_of}
use Rattle.records.specs.Memory.{record_in}
use Rattle.rules.specs.World.{World}
use Rattle.rules.specs.Calls.{Call, Answer, answer_to, world_after}
use Rattle.rules.specs.Lending.{proper}
use Rattle.rules.specs.Demand2.{StateMove}
use Rattle.rules.specs.Demand3.{book_of, Demand3}
use Rattle.rules.specs.Running.{NamesStand}
use Rattle.rules.specs.Frames.{refused_by, buffer_of, buffer_after}
use Rattle.chains.specs.Links.{Form, Promised, Made, Linked, after, is_initialisation, Chain, end_of, journal_of}

-- ---- one call

-- what a form has to give, so that all the claims hold of it
abbrev pub Promises : Form → Type 0
Promises F = (u v : World) (c : Call) (a : Answer) → F u c a v → Promised u c a v

-- the promise can be kept: the rules' own answer and world keep it
abbrev pub Kept : Type 0
Kept = (u : World) (c : Call) → Promised u c (answer_to u c) (world_after u c)

-- and by nothing else
abbrev pub Fixed : Form → Type 0
Fixed F = (u v : World) (c : Call) (a : Answer) → F u c a v → (a ≡ answer_to u c) × (v ≡ world_after u c)

-- Every refusal returns its number alone and leaves everything (01, Numbers returned): state, row, store, room, and a collection's
-- buffer. l stands for the buffer of a call that has none.
abbrev pub Refusals : Form → Type 0
Refusals F =
    (u v : World) (c : Call) (a : Answer) (l : List ℕ) → F u c a v → refused_by a ≡ true → (v ≡ u) × (buffer_after a l ≡ buffer_of c l)

-- ---- chains

-- a first call that is an initialisation
pub record Begins (F : Form) (before : World) (first : Made) : Type 0 where
  pub linked : Linked F before first
  pub initialisation : is_initialisation before.hca.logs first.call first.answer ≡ true

-- From the world w to the world z that a call leaves, every queue pair's state stays, or the call is the first step of a request on that
-- queue pair, and the state moves along an edge that is permitted to that request, from the state and for the service type that the
-- record has in w.
abbrev pub Edges : World → Call → World → Type 0
Edges w c z =
    (n : QpNumber) → is_record w.hca.logs (rec.Qp n) ≡ true
    → let before : List ℕ = record_in w.hca.logs (proper w).memory (rec.Qp n) in
    let afterwards : List ℕ = record_in w.hca.logs (proper z).memory (rec.Qp n) in
    StateMove (proper w) c (rec.Qp n) (state_of before) (service_of before) (state_of afterwards)

-- DEMAND 2, the edges
abbrev pub States : Form → Type 0
States F =
    (before : World) (first : Made) → Begins F before first
    → (calls : List Made) → Chain F (after before first) calls
    → let end : World = end_of (after before first) calls in
    (last : Made) → Linked F end last → is_initialisation end.hca.logs last.call last.answer ≡ false
    → Edges end last.call (after end last)

-- the calls before a call of a chain are a chain, and the call has its link in their last world
abbrev pub Fronts : Form → Type 0
Fronts F =
    (w : World) (A B : List Made) (m : Made) → Chain F w (A ++ m ∷ B)
    → Chain F w A × Linked F (end_of w A) m × (is_initialisation (end_of w A).hca.logs m.call m.answer ≡ false)

-- DEMAND 3
abbrev pub Serial : Form → Type 0
Serial F =
    (before : World) (first : Made) → Begins F before first
    → (calls : List Made) → Chain F (after before first) calls
    → let start : World = after before first in
    Demand3 (book_of (proper start)) (proper (end_of start calls)) (journal_of start [] calls)

-- what the holds of a joined read are for (02, wish 2)
abbrev pub Holding : Form → Type 0
Holding F =
    (before : World) (first : Made) → Begins F before first
    → (calls : List Made) → Chain F (after before first) calls
    → let start : World = after before first in
    NamesStand (book_of (proper start)) (proper (end_of start calls)) (journal_of start [] calls)

-- the book of demand 3 at its start
abbrev pub Zeroed : Form → Type 0
Zeroed F =
    (before : World) (first : Made) → Begins F before first
    → let start : World = after before first in
    (X : Record) → is_record start.hca.logs X ≡ true → (book_of (proper start)).bytes X ≡ replicate (record_size X) 0

-- ---- all of it, of every form that gives the promise

pub record Demands (F : Form) : Type 0 where
  pub fixed : Fixed F
  pub refusals : Refusals F
  pub states : States F
  pub fronts : Fronts F
  pub serial : Serial F
  pub holding : Holding F
  pub zeroed : Zeroed F

abbrev pub EveryForm : Type 1
EveryForm = (F : Form) → Promises F → Demands F
