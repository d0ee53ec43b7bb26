-- The laws of the request table: a request's record is no larger than a queue pair's, and its mailbox bytes no more than its record's.
use Rattle.std.specs.Prelude.{◌≡◌, refl, true, false, [], ◌∷◌, ◌≤◌}
use Rattle.std.proofs.Common.{sym, inl, arith, lit≤}
use Rattle.std.proofs.lemmas.Bool.{false≢true}
use Rattle.context.specs.Layout.{size_of, record_size}
use Rattle.context.specs.declared.Kind.TheVariants as kind
use Rattle.context.specs.declared.Record.{Record}
use Rattle.context.specs.declared.Record.TheVariants as rec
use Rattle.edges.specs.declared.Edge.{Edge}
use Rattle.edges.specs.declared.Edge.TheVariants.{ResetToInit, InitToInit, InitToRtr, RtrToRts, RtsToRts}
use Rattle.edges.specs.declared.Edge.TheVariants.{SqeToRts, RtsToSqd, SqdToSqd, SqdToRts, ToErr, ToReset}
use Rattle.requests.specs.declared.Owned.{Owned}
use Rattle.requests.specs.declared.Owned.TheVariants as owned
use Rattle.requests.specs.declared.Command.TheVariants as command
use Rattle.requests.specs.declared.EngineRequest.TheVariants as engine
use Rattle.requests.specs.declared.Request.{Request}
use Rattle.requests.specs.declared.Request.TheVariants as request
use Rattle.request_table.specs.Records.{record_of, records_of, writes_of}
use Rattle.request_table.specs.Listed.{In}
use Rattle.mailboxes.specs.Mailboxes.{stored_of, edge_need, need_of}
use Rattle.request_table.proofs.Sizes.{owned_size}

-- the largest records are the queue pairs'
pub size_most : (X : Record) → record_size X ≤ size_of kind.Qp
size_most (rec.Qp n) = lit≤ tt
size_most (rec.Cq n) = lit≤ tt
size_most (rec.Eq n) = lit≤ tt
size_most (rec.Mpt n) = lit≤ tt

pub record_small : (q : Request) → record_size (record_of q) ≤ size_of kind.Qp
record_small q = size_most (record_of q)

-- a request that writes has one record
pub write_one : (q : Request) → writes_of q ≡ true → records_of q ≡ record_of q ∷ []
write_one (request.Command c) w = refl
write_one (request.Engine (engine.ReadState n)) w = absurd (false≢true w)
write_one (request.Engine (engine.ReadNext n)) w = absurd (false≢true w)
write_one (request.Engine (engine.ReadAll n)) w = absurd (false≢true w)
write_one (request.Engine (engine.Write p s n psn)) w = refl
write_one (request.Engine (engine.ReadJoined n c e)) w = absurd (false≢true w)

-- the record that a request's index names is one of its records
pub own_in : (q : Request) → In (record_of q) (records_of q)
own_in (request.Command c) = inl refl
own_in (request.Engine (engine.ReadState n)) = inl refl
own_in (request.Engine (engine.ReadNext n)) = inl refl
own_in (request.Engine (engine.ReadAll n)) = inl refl
own_in (request.Engine (engine.Write p s n psn)) = inl refl
own_in (request.Engine (engine.ReadJoined n c e)) = inl refl

-- what an edge and an owned record need of the mailbox
pub edge_small : (e : Edge) → edge_need e ≤ 164
edge_small ResetToInit = lit≤ tt
edge_small InitToInit = lit≤ tt
edge_small InitToRtr = lit≤ tt
edge_small RtrToRts = lit≤ tt
edge_small RtsToRts = lit≤ tt
edge_small SqeToRts = lit≤ tt
edge_small RtsToSqd = lit≤ tt
edge_small SqdToSqd = lit≤ tt
edge_small SqdToRts = lit≤ tt
edge_small ToErr = lit≤ tt
edge_small ToReset = lit≤ tt

pub stored_small : (o : Owned) → stored_of o ≤ 56
stored_small (owned.Mpt n) = lit≤ tt
stored_small (owned.Eq n) = lit≤ tt
stored_small (owned.Cq n) = lit≤ tt

-- the needed mailbox bytes are no more than the record's
pub need_record : (q : Request) → need_of q ≤ record_size (record_of q)
need_record (request.Command (command.Sw2Hw o)) = omega (arith, stored_small o, owned_size o)
need_record (request.Command (command.Hw2Sw o)) = omega arith
need_record (request.Command (command.ResizeCq n)) = lit≤ tt
need_record (request.Command (command.QueryQp n)) = lit≤ tt
need_record (request.Command (command.ModifyQp e n)) = omega (arith, edge_small e)
need_record (request.Engine e) = omega arith

-- a request that writes nothing needs no mailbox bytes
pub need_reader : (q : Request) → writes_of q ≡ false → need_of q ≡ 0
need_reader (request.Command (command.Sw2Hw o)) w = absurd (false≢true (sym w))
need_reader (request.Command (command.Hw2Sw o)) w = absurd (false≢true (sym w))
need_reader (request.Command (command.ResizeCq n)) w = absurd (false≢true (sym w))
need_reader (request.Command (command.QueryQp n)) w = refl
need_reader (request.Command (command.ModifyQp e n)) w = absurd (false≢true (sym w))
need_reader (request.Engine e) w = refl
