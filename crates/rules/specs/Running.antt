-- WHAT THE HOLDS ARE FOR (02, wish 2).
--
-- What is claimed, and of what: after every call that begins a list, and every list of calls, as in demand 3: while slot k runs the joined
-- read of queue pair n with the names c and e, word 70h of that queue pair and word 10h of that completion queue in the store are c and e;
-- and the request stands in the journal where it was accepted, and there the book, given the finished requests accepted before it and no
-- others, finds the same names in its own records. The list may end with the call that accepted it. The proof is in Proofs/Running; it
-- assumes nothing.
--
-- What is not claimed: anything of a joined read that is finished (its records are no longer held), or of a slot that was handed in.
use Rattle.std.specs.Prelude.{◌≡◌, true, List, [], ◌∷◌, ◌++◌, ℕ}
use Rattle.context.specs.declared.CqNumber.{CqNumber}
use Rattle.context.specs.declared.EqNumber.{EqNumber}
use Rattle.context.specs.declared.QpNumber.{QpNumber}
use Rattle.context.specs.declared.Record.TheVariants as rec
use Rattle.checks.specs.Fields.{cq_named, eq_named}
use Rattle.records.specs.Memory.{record_in}
use Rattle.slots.specs.declared.Status.TheVariants.{Running}
use Rattle.rules.specs.World.{World, status_at}
use Rattle.rules.specs.Names.{read_joined, joins, found}
use Rattle.rules.specs.Book.{Book, on_record, named}
use Rattle.rules.specs.Lending.{LentCall, world_lent, begins_lent, proper}
use Rattle.rules.specs.Demand3.{Entry, in_slot, Run, run_from, finished_in, given, book_of}

-- of a run that began with the book b and has come to the world w and the journal J
pub record Stands (b : Book) (w : World) (J : List Entry) (k : ℕ) (n : QpNumber) (c : CqNumber) (e : EqNumber) : Type 0 where
  -- the names in the store
  pub cq : cq_named (record_in w.hca.logs w.memory (rec.Qp n)) ≡ c.0
  pub eq : eq_named (record_in w.hca.logs w.memory (rec.Cq c)) ≡ e.0
  -- its place in the journal: the book is fed the number and the index alone
  pub before : List Entry
  pub after : List Entry
  pub place : J ≡ before ++ in_slot (on_record (read_joined n) []) k ∷ after
  -- the names that the book finds there
  pub book : named (read_joined n) (given b (finished_in w before)) ≡ found (joins n c e)

-- so of every joined read that runs
abbrev pub NamesStand : Book → World → List Entry → Type 0
NamesStand b w J =
    (k m : ℕ) (n : QpNumber) (c : CqNumber) (e : EqNumber) → status_at k w.row ≡ Running m (joins n c e) → Stands b w J k n c e

abbrev pub Statement : Type 0
Statement =
    (before : World) (first : LentCall) → begins_lent before first ≡ true
    → (calls : List LentCall)
    → let start : World = world_lent before first in
    let end : Run = run_from start [] calls in
    NamesStand (book_of (proper start)) (proper end.world) end.journal
