-- The submission of a command: the rows of 01's table of refusals from the top, as far as the request's own.
use Rattle.std.specs.Prelude.{Bool, true, false, not, List, ℕ, ltb, length, Option, Some, None, Result, Ok, Err}
use Rattle.words.specs.Choice.{pick, both, either}
use Rattle.hcr.specs.Register.{read_of}
use Rattle.hcr.specs.declared.HcrCommand.{HcrCommand}
use Rattle.hcr.specs.declared.ReadError.{ReadError}
use Rattle.context.specs.Init.{init_of}
use Rattle.context.specs.declared.InitError.{InitError}
use Rattle.context.specs.declared.Logs.{Logs}
use Rattle.requests.specs.declared.Request.TheVariants as request
use Rattle.commands.specs.Commands.{read_op, read_command}
use Rattle.commands.specs.declared.Op.{Op}
use Rattle.commands.specs.declared.Op.TheVariants as op
use Rattle.commands.specs.declared.CommandAsked.{CommandAsked}
use Rattle.commands.specs.declared.CommandAsked.TheVariants as asked
use Rattle.slots.specs.Slots.{is_occupied, has_command}
use Rattle.slots.specs.declared.Slot.{Slot}
use Rattle.rows.specs.Rows.{any_slot}
use Rattle.rules.specs.declared.Refusal.TheVariants as cause
use Rattle.rules.specs.Causes.{of_read_error, of_init_error}
use Rattle.rules.specs.World.{World, store_length, bad_lent, bad_state}
use Rattle.rules.specs.Admission.{Submitted, applied, decide_request}
use Rattle.rules.specs.declared.Decision.{Decision}
use Rattle.rules.specs.declared.Refusal.{Refusal}
use Rattle.rules.specs.declared.Decision.TheVariants as decide

-- INIT_HCA's mailbox is long enough; its counts are in range and fit the store (01, Numbers returned, 0x83 and 3 of the mailbox).
unfoldable pub decide_init : Result Logs InitError → Result Decision Refusal
decide_init (Ok g) = Ok (decide.Open g)
decide_init (Err e) = Err (of_init_error e)

-- op_modifier and in_modifier are right (01, Numbers returned, the second 3). INIT_HCA, CLOSE_HCA and NOP are done at once and use no
-- slot (01, Commands); every other command is a request on a record.
unfoldable pub decide_found : World → List ℕ → Option CommandAsked → Result Decision Refusal
decide_found w mail (Some asked.InitHca) = decide_init (init_of mail (store_length w))
decide_found w mail (Some asked.CloseHca) = Ok decide.Close
decide_found w mail (Some asked.Nop) = Ok decide.Nothing
decide_found w mail (Some (asked.OnRecord c)) = decide_request w (request.Command c) mail
decide_found w mail None = Err cause.BadParameter

-- INIT_HCA is served while closed, NOP always, every other command while open (01, Numbers returned, 4).
abbrev pub bad_system : Bool → Op → Bool
bad_system o op.InitHca = o
bad_system o op.CloseHca = not o
bad_system o op.Nop = false
bad_system o (op.Sw2Hw t) = not o
bad_system o (op.Hw2Sw t) = not o
bad_system o op.ResizeCq = not o
bad_system o op.QueryQp = not o
bad_system o (op.ModifyQp e) = not o

-- CLOSE_HCA among the ops
abbrev pub is_close : Op → Bool
is_close op.InitHca = false
is_close op.CloseHca = true
is_close op.Nop = false
is_close (op.Sw2Hw t) = false
is_close (op.Hw2Sw t) = false
is_close op.ResizeCq = false
is_close op.QueryQp = false
is_close (op.ModifyQp e) = false

-- No command is taken while another is uncollected, and CLOSE_HCA not while a slot is occupied (01, Numbers returned, the first 0x81).
unfoldable pub busy : List Slot → Op → Bool
busy row o = either (any_slot has_command row) (both (is_close o) (any_slot is_occupied row))

-- The op is served (01, Numbers returned, 2); then 4 and the first 0x81.
unfoldable pub decide_op : World → List ℕ → HcrCommand → Option Op → Result Decision Refusal
decide_op w mail c None = Err cause.NotServed
decide_op w mail c (Some o) =
    pick (bad_system w.hca.«open» o) (Err cause.BadSystemState)
    (pick (busy w.row o) (Err cause.Busy)
    (decide_found w mail (read_command w.hca.logs o c.op_modifier c.in_modifier)))

-- The register is well formed, and does not ask for an event, which submission alone refuses (01, Numbers returned, the first 3).
unfoldable pub decide_register : World → List ℕ → Result HcrCommand ReadError → Result Decision Refusal
decide_register w mail (Err e) = Err (of_read_error e)
decide_register w mail (Ok c) = pick c.event (Err cause.Malformed) (decide_op w mail c (read_op c.op))

-- A command is submitted as its 28 bytes; that there are as many is part of the first row, before an impossible state (01, Numbers
-- returned, the first 0x83, then 0x87).
unfoldable pub decide_command : World → List ℕ → List ℕ → Result Decision Refusal
decide_command w bytes mail =
    pick (either (bad_lent w) (ltb (length bytes) 28)) (Err cause.BadLength)
    (pick (bad_state w) (Err cause.Impossible)
    (decide_register w mail (read_of bytes)))

unfoldable pub submit_command : World → List ℕ → List ℕ → Submitted
submit_command w bytes mail = applied w mail (decide_command w bytes mail)
