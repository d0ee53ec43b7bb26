-- Laws about the definitions of specs/Permission.antt.
use Rattle.std.specs.Prelude.{◌≡◌, refl, Bool, true, false, not, List, ℕ, Result, Ok, Err}
use Rattle.std.proofs.Common.{sym, ◌∙◌, ap, arith}
use Rattle.words.specs.Choice.{pick}
use Rattle.edges.specs.Edges.{permits, for_some_type, judge_of}
use Rattle.edges.specs.declared.Move.{Move}
use Rattle.edges.specs.declared.Move.TheVariants as move
use Rattle.edges.specs.declared.EdgeDenial.TheVariants as edgeDenial
use Rattle.requests.specs.declared.Command.{Command}
use Rattle.requests.specs.declared.Command.TheVariants as command
use Rattle.requests.specs.declared.EngineRequest.{EngineRequest}
use Rattle.requests.specs.declared.EngineRequest.TheVariants as engine
use Rattle.requests.specs.declared.Request.{Request}
use Rattle.requests.specs.declared.Request.TheVariants as request
use Rattle.checks.specs.Fields.{state_of, is_hardware}
use Rattle.checks.specs.Verdicts.{verdict_number, by_edge}
use Rattle.checks.specs.declared.Denial.TheVariants as denial
use Rattle.checks.specs.Permission.{command_permits, engine_for_some_type, engine_permits, for_some_type_in, move_verdict, permission_of, permits_command, permits_engine, permits_in, permits_move}
use Rattle.checks.specs.declared.Denial.{Denial}

-- A verdict has the number 0 where the test holds, and else 0x85 (01, Numbers returned, 0x85) or, of an engine write that some service type
-- permits, 0x88 (02, wish 5): for a record that must be software's, for one that must be the hardware's, for an edge, and so for every
-- request. A command never gets 0x88.
software_number : (b : Bool) → verdict_number (pick b (Err denial.Owner) (Ok tt)) ≡ pick (not b) 0 0x85
software_number true = refl
software_number false = refl

hardware_number : (b : Bool) → verdict_number (pick b (Ok tt) (Err denial.Owner)) ≡ pick b 0 0x85
hardware_number true = refl
hardware_number false = refl

edge_number : (b t : Bool)
    → verdict_number (by_edge (pick b (Ok tt) (pick t (Err edgeDenial.NotForType) (Err edgeDenial.NotPermitted)))) ≡ pick b 0 (pick t 0x88 0x85)
edge_number true t = refl
edge_number false true = refl
edge_number false false = refl

move_number : (asked : Move) (r : List ℕ)
    → verdict_number (move_verdict asked r) ≡ pick (permits_move asked r) 0 (pick (for_some_type asked (state_of r)) 0x88 0x85)
unfolding judge_of
move_number asked r = edge_number (permits_move asked r) (for_some_type asked (state_of r))

command_number : (c : Command) (r : List ℕ) → verdict_number (command_permits c r) ≡ pick (permits_command c r) 0 0x85
command_number (command.Sw2Hw o) r = software_number (is_hardware r)
command_number (command.Hw2Sw o) r = hardware_number (is_hardware r)
command_number (command.ResizeCq n) r = hardware_number (is_hardware r)
command_number (command.QueryQp n) r = refl
command_number (command.ModifyQp e n) r = move_number (move.Command e) r

engine_number_lem : (e : EngineRequest) (r : List ℕ)
    → verdict_number (engine_permits e r) ≡ pick (permits_engine e r) 0 (pick (engine_for_some_type e r) 0x88 0x85)
engine_number_lem (engine.ReadState n) r = refl
engine_number_lem (engine.ReadNext n) r = refl
engine_number_lem (engine.ReadAll n) r = refl
engine_number_lem (engine.Write p s n psn) r = move_number (move.Engine s) r
engine_number_lem (engine.ReadJoined n c e) r = refl

pub permission_number : (q : Request) (r : List ℕ)
    → verdict_number (permission_of q r) ≡ pick (permits_in q r) 0 (pick (for_some_type_in q r) 0x88 0x85)
permission_number (request.Command c) r = command_number c r
permission_number (request.Engine e) r = engine_number_lem e r

number_holds : (b t : Bool) → ◌≡◌ {A = ℕ} 0 (pick b 0 (pick t 0x88 0x85)) → b ≡ true
number_holds true t e = refl
number_holds false true e = absurd (omega arith)
number_holds false false e = absurd (omega arith)

-- Where the verdict is that the record permits the request, the test holds.
pub permission_holds : (q : Request) (r : List ℕ) → permission_of q r ≡ Ok tt → permits_in q r ≡ true
permission_holds q r e = number_holds (permits_in q r) (for_some_type_in q r) (sym (ap verdict_number e) ∙ permission_number q r)

-- A verdict that is the record's, with its number.
pub permission_told : (q : Request) (r : List ℕ) {v : Result (Unit {0}) Denial} → v ≡ permission_of q r
    → (v ≡ permission_of q r) × (verdict_number v ≡ pick (permits_in q r) 0 (pick (for_some_type_in q r) 0x88 0x85))
permission_told q r e = (e, ap verdict_number e ∙ permission_number q r)
