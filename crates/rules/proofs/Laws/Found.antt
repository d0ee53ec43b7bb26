-- What reading a command or an engine request finds: a command without a record by its own op alone, and a request on a record only on
-- one of the store.
use Rattle.std.specs.Prelude.{◌≡◌, refl, Bool, true, false, not, ℕ, ◌^◌, eqb, ltb, Option, Some, None}
use Rattle.std.proofs.Common.{subst}
use Rattle.words.proofs.Choice.{by_pick}
use Rattle.context.specs.Layout.{is_record}
use Rattle.context.specs.declared.Logs.{Logs}
use Rattle.context.specs.declared.Record.TheVariants as rec
use Rattle.context.specs.declared.CqNumber.{CqNumber}
use Rattle.context.specs.declared.EqNumber.{EqNumber}
use Rattle.context.specs.declared.MptNumber.{MptNumber}
use Rattle.context.specs.declared.QpNumber.{QpNumber}
use Rattle.requests.specs.Psns.{psn_fits}
use Rattle.requests.specs.declared.Command.{Command}
use Rattle.requests.specs.declared.EngineRequest.{EngineRequest}
use Rattle.requests.specs.declared.EngineRequest.TheVariants as engine
use Rattle.requests.specs.declared.PsnField.{PsnField}
use Rattle.commands.specs.Commands.{op_modifier_of, on_mpt, on_eq, on_cq, sw2hw_of, hw2sw_of, resize_of, query_of, modify_of, addressed, read_command}
use Rattle.commands.specs.declared.Op.{Op}
use Rattle.commands.specs.declared.Op.TheVariants as op
use Rattle.commands.specs.declared.Table.TheVariants as table
use Rattle.commands.specs.declared.CommandAsked.{CommandAsked}
use Rattle.commands.specs.declared.CommandAsked.TheVariants as asked
use Rattle.engines.specs.Engines.{state_from, write_found, engine_on, engine_at, read_engine}
use Rattle.engines.specs.declared.EngineNumber.{EngineNumber}
use Rattle.engines.specs.declared.EngineNumber.TheVariants as number
use Rattle.engines.specs.declared.EngineAsked.{EngineAsked}
use Rattle.engines.specs.declared.EngineAsked.TheVariants as engineAsked
use Rattle.request_table.specs.Records.{command_record, engine_record}
use Rattle.rules.specs.Commands.{bad_system}
use Rattle.edges.specs.declared.State.{State}

-- ---- commands

-- what an op may be found as; one on a record is served while open only
pub data Reads (g : Logs) : Op → Option CommandAsked → Type 0 where
  wrong : {o : Op} → Reads g o None
  init : Reads g op.InitHca (Some asked.InitHca)
  close : Reads g op.CloseHca (Some asked.CloseHca)
  nop : Reads g op.Nop (Some asked.Nop)
  on_record : {o : Op} {c : Command} → ((b : Bool) → bad_system b o ≡ not b) → is_record g (command_record c) ≡ true
      → Reads g o (Some (asked.OnRecord c))

addressed_reads : (g : Logs) (o : Op) (n : ℕ) → Reads g o (addressed g o n)
unfolding is_record
addressed_reads g op.InitHca n = by_pick (Reads g op.InitHca) (eqb n 0) (Some asked.InitHca) None (λ _. init) (λ _. wrong)
addressed_reads g op.CloseHca n = by_pick (Reads g op.CloseHca) (eqb n 0) (Some asked.CloseHca) None (λ _. close) (λ _. wrong)
addressed_reads g op.Nop n = by_pick (Reads g op.Nop) (eqb n 0) (Some asked.Nop) None (λ _. nop) (λ _. wrong)
addressed_reads g (op.Sw2Hw table.Mpt) n =
    by_pick (λ (x : Option MptNumber). Reads g (op.Sw2Hw table.Mpt) (sw2hw_of (on_mpt x))) (ltb n (2 ^ g.mpts)) _ _ (λ t. on_record (λ _. refl) t)
    (λ _. wrong)
addressed_reads g (op.Sw2Hw table.Eq) n =
    by_pick (λ (x : Option EqNumber). Reads g (op.Sw2Hw table.Eq) (sw2hw_of (on_eq x))) (ltb n (2 ^ g.eqs)) _ _ (λ t. on_record (λ _. refl) t)
    (λ _. wrong)
addressed_reads g (op.Sw2Hw table.Cq) n =
    by_pick (λ (x : Option CqNumber). Reads g (op.Sw2Hw table.Cq) (sw2hw_of (on_cq x))) (ltb n (2 ^ g.cqs)) _ _ (λ t. on_record (λ _. refl) t)
    (λ _. wrong)
addressed_reads g (op.Hw2Sw table.Mpt) n =
    by_pick (λ (x : Option MptNumber). Reads g (op.Hw2Sw table.Mpt) (hw2sw_of (on_mpt x))) (ltb n (2 ^ g.mpts)) _ _ (λ t. on_record (λ _. refl) t)
    (λ _. wrong)
addressed_reads g (op.Hw2Sw table.Eq) n =
    by_pick (λ (x : Option EqNumber). Reads g (op.Hw2Sw table.Eq) (hw2sw_of (on_eq x))) (ltb n (2 ^ g.eqs)) _ _ (λ t. on_record (λ _. refl) t)
    (λ _. wrong)
addressed_reads g (op.Hw2Sw table.Cq) n =
    by_pick (λ (x : Option CqNumber). Reads g (op.Hw2Sw table.Cq) (hw2sw_of (on_cq x))) (ltb n (2 ^ g.cqs)) _ _ (λ t. on_record (λ _. refl) t)
    (λ _. wrong)
addressed_reads g op.ResizeCq n =
    by_pick (λ (x : Option CqNumber). Reads g op.ResizeCq (resize_of x)) (ltb n (2 ^ g.cqs)) _ _ (λ t. on_record (λ _. refl) t) (λ _. wrong)
addressed_reads g op.QueryQp n =
    by_pick (λ (x : Option QpNumber). Reads g op.QueryQp (query_of x)) (ltb n (2 ^ g.qps)) _ _ (λ t. on_record (λ _. refl) t) (λ _. wrong)
addressed_reads g (op.ModifyQp e) n =
    by_pick (λ (x : Option QpNumber). Reads g (op.ModifyQp e) (modify_of e x)) (ltb n (2 ^ g.qps)) _ _ (λ t. on_record (λ _. refl) t) (λ _. wrong)

pub command_reads : (g : Logs) (o : Op) (p n : ℕ) → Reads g o (read_command g o p n)
unfolding read_command
command_reads g o p n =
    by_pick (Reads g o) (eqb p (op_modifier_of o)) (addressed g o n) None (λ _. addressed_reads g o n) (λ _. wrong)

-- ---- engine requests

-- a request that is found has one record, or the names of the others are still to be read
abbrev pub Alone : EngineRequest → Type 0
Alone (engine.ReadState n) = Unit {0}
Alone (engine.ReadNext n) = Unit {0}
Alone (engine.ReadAll n) = Unit {0}
Alone (engine.Write p s n psn) = Unit {0}
Alone (engine.ReadJoined n c e) = ⊥

-- and the record of its index is one of the store
abbrev pub Valid : Logs → Option EngineAsked → Type 0
Valid g (Some (engineAsked.OnRecord e)) = (is_record g (engine_record e) ≡ true) × Alone e
Valid g (Some (engineAsked.Joined n)) = is_record g (rec.Qp n) ≡ true
Valid g None = Unit {0}

-- queue pair n is a record
abbrev IsQp : Logs → ℕ → Type 0
IsQp g n = is_record g (engine_record (engine.ReadState (record { 0 = n }))) ≡ true

state_valid : (g : Logs) (p : PsnField) (n psn : ℕ) (s : Option State) → IsQp g n → Valid g (write_found p (record { 0 = n }) psn s)
state_valid g p n psn (Some s) t = (t, tt)
state_valid g p n psn None t = tt

on_valid : (g : Logs) (k : EngineNumber) (n psn code : ℕ) → IsQp g n → Valid g (engine_on k (record { 0 = n }) psn code)
on_valid g number.ReadState n psn code t = (t, tt)
on_valid g number.ReadNext n psn code t = (t, tt)
on_valid g number.ReadAll n psn code t = (t, tt)
on_valid g number.ReadJoined n psn code t = t
on_valid g (number.Write p) n psn code t =
    by_pick (Valid g) (psn_fits psn) (write_found p (record { 0 = n }) psn (state_from code)) None
    (λ _. state_valid g p n psn (state_from code) t) (λ _. tt)

pub engine_valid : (g : Logs) (k : EngineNumber) (index psn code : ℕ) → Valid g (read_engine g k index psn code)
unfolding read_engine is_record
engine_valid g k index psn code =
    by_pick (λ (x : Option QpNumber). Valid g (engine_at k x psn code)) (ltb index (2 ^ g.qps)) _ _ (λ t. on_valid g k index psn code t) (λ _. tt)
