-- The examples marked P (01, Examples to hold it against), in a single table with a single statement; where it is cheap, by whole calls.
use Rattle.std.specs.Prelude.{◌≡◌, refl, false, List, [], ◌∷◌, ◌++◌, map, ℕ, ◌*◌, replicate, Result, Ok, Err}
use Rattle.words.specs.Maps.{map_from}
use Rattle.words.specs.Parts.{splice}
use Rattle.words.specs.Words.{le_bytes, be32, be_bytes}
use Rattle.hcr.specs.Register.{read_of, read_answer_number}
use Rattle.hcr.specs.declared.HcrCommand.{HcrCommand}
use Rattle.hcr.specs.declared.ReadError.{ReadError}
use Rattle.hcr.specs.declared.ReadError.TheVariants as readError
use Rattle.context.specs.Init.{logs_of}
use Rattle.context.specs.Layout.{in_use, record_at}
use Rattle.context.specs.declared.Logs.{Logs}
use Rattle.context.specs.declared.Record.{Record}
use Rattle.context.specs.declared.Record.TheVariants as rec
use Rattle.edges.specs.States.{state_code, rc, uc, ud}
use Rattle.edges.specs.declared.State.{State}
use Rattle.edges.specs.declared.State.TheVariants.{Reset, Init, Rtr, Rts, Sqe}
use Rattle.requests.specs.declared.PsnField.TheVariants.{Expected}
use Rattle.requests.specs.declared.EngineRequest.TheVariants as engine
use Rattle.requests.specs.declared.Request.{Request}
use Rattle.requests.specs.declared.Request.TheVariants as request
use Rattle.burst_table.specs.Sizes.{room_size}
use Rattle.checks.specs.Permission.{permission_of}
use Rattle.checks.specs.Verdicts.{verdict_number}
use Rattle.byte_rule.specs.Bytes.{byte_of}
use Rattle.records.specs.Memory.{memory, record_in}
use Rattle.rows.specs.Rows.{empty_row}
use Rattle.rules.specs.Numbers.{submit_number}
use Rattle.rules.specs.World.{World, world, with_memory, hca_of}
use Rattle.rules.specs.Admission.{Submitted}
use Rattle.rules.specs.Commands.{submit_command}
use Rattle.rules.specs.Engines.{submit_engine}
use Rattle.rules.specs.Steps.{step_of}
use Rattle.rules.specs.Whole.{whole_effect, set_state, set_psn}
use Rattle.rules.proofs.Scripts.{hcr_of, image, everything}

-- an example: n of Pn, what the definitions give, and what document 01 gives
pub record Row : Type 0 where
  pub name : ℕ
  pub found : List ℕ
  pub given : List ℕ

abbrev pub p : ℕ → List ℕ → List ℕ → Row
p n a b = record { name = n; found = a; given = b }

-- ---- INIT_HCA

-- its mailbox with the logarithms 3, 2, 1 and 2 in the bytes 0Fh, 17h, 1Fh and 37h
abbrev pub mailbox : List ℕ
mailbox = replicate 15 0 ++ (3 ∷ replicate 7 0 ++ (2 ∷ replicate 7 0 ++ (1 ∷ replicate 23 0 ++ (2 ∷ replicate 8 0))))

unfoldable pub logs : Logs
logs = logs_of mailbox

-- INIT_HCA in a closed state that remembers the length 0, lent a store of n bytes
unfoldable pub initialised : ℕ → Submitted
initialised n =
    submit_command (world (hca_of false logs 0) empty_row (replicate n 0xee) (replicate room_size 0xdd)) (hcr_of false 0x07 0 0) mailbox

-- the number of its answer, and the length remembered
abbrev pub remembered : Submitted → List ℕ
remembered s = submit_number s.answer ∷ s.world.hca.store_len ∷ []

unfoldable pub opened : World
opened = (initialised 2688).world

-- ---- a register with a word 18h

abbrev pub register : ℕ → List ℕ
register w = replicate 24 0 ++ le_bytes 4 w

-- what the register's reader gives: op and op_modifier, or the number of its refusal
abbrev pub read_back : Result HcrCommand ReadError → List ℕ
read_back (Ok c) = c.op ∷ c.op_modifier ∷ []
read_back (Err readError.Short) = read_answer_number (Err readError.Short) ∷ []
read_back (Err readError.Malformed) = read_answer_number (Err readError.Malformed) ∷ []

-- a queue pair's record with a state, a service type and a word 84h
abbrev pub qp_with : State → ℕ → ℕ → List ℕ
qp_with s service w = state_code s * 16 ∷ service ∷ replicate 0x82 0 ++ (be_bytes 4 w ++ replicate 0x78 0)

-- lent a store in which queue pair n has this record, all others being in RESET
abbrev pub holding : ℕ → List ℕ → World
holding n r = with_memory opened (memory (splice (record_at logs (rec.Qp (record { 0 = n }))) r opened.memory.store))

-- the number that its submission gets with queue pair 0 in that state, and with an image that the edge to INIT accepts
abbrev pub submits : ℕ → State → ℕ
submits w s = submit_number (submit_command (holding 0 (qp_with s rc 0)) (register w) image).answer

-- ---- an engine's write of an expected PSN to queue pair 5

abbrev pub qp5 : Record
qp5 = rec.Qp (record { 0 = 5 })

-- request 5, lent a store with that record
abbrev pub written : List ℕ → State → ℕ → Submitted
written r to psn = submit_engine (holding 5 r) 5 5 psn (state_code to)

-- the number that it gets, by the record's state and type and the state to be written
abbrev pub engine_write : State → State → ℕ → ℕ
engine_write from to service = submit_number (written (qp_with from service 0) to 0).answer

abbrev pub write_expected : ℕ → Request
write_expected psn = request.Engine (engine.Write Expected Rtr (record { 0 = 5 }) psn)

-- the queue pair of P12, in RTR
abbrev pub before12 : List ℕ
before12 = qp_with Rtr rc 0x07000010

-- queue pair 5 after two steps of slot 0
unfoldable pub twice_stepped : World → List ℕ
twice_stepped w = record_in logs (step_of (step_of w 0).world 0).world.memory qp5

-- ---- the table

unfoldable pub table : List Row
table =
    -- 2,688 bytes are in use; a store of that length is accepted, and its length remembered
    p 1 (in_use logs ∷ remembered (initialised 2688)) (2688 ∷ 0 ∷ 2688 ∷ [])
    -- one byte less gets 3, and nothing is remembered
    ∷ p 2 (remembered (initialised 2687)) (3 ∷ 0 ∷ [])
    -- where queue pair 5, completion queue 3 and memory region 3 start
    ∷ p 3 (record_at logs qp5 ∷ []) (1280 ∷ [])
    ∷ p 4 (record_at logs (rec.Cq (record { 0 = 3 })) ∷ []) (2240 ∷ [])
    ∷ p 5 (record_at logs (rec.Mpt (record { 0 = 3 })) ∷ []) (2624 ∷ [])
    -- op and op_modifier of two registers: of the first the submission is accepted in RESET, of the second in INIT and not in RESET (02,
    -- wish 1); a bit that must be 0 is set, and reading and submission give 3
    ∷ p 6 (read_back (read_of (register 0x00800019)) ++ submits 0x00800019 Reset ∷ []) (0x19 ∷ 0 ∷ 0 ∷ [])
    ∷ p 7 (read_back (read_of (register 0x0080301e)) ++ map (submits 0x0080301e) (Reset ∷ Init ∷ [])) (0x1e ∷ 3 ∷ 0x85 ∷ 0 ∷ [])
    ∷ p 8 (read_back (read_of (register 0x00900019)) ++ submits 0x00900019 Reset ∷ []) (3 ∷ 3 ∷ [])
    -- an engine's write from RTR to SQE, whatever the type; from RTS to SQE for UD, and for RC, which is refused for the type (02, wish 5)
    ∷ p 9 (engine_write Rtr Sqe rc ∷ engine_write Rtr Sqe uc ∷ engine_write Rtr Sqe ud ∷ []) (0x85 ∷ 0x85 ∷ 0x85 ∷ [])
    ∷ p 10 (engine_write Rts Sqe ud ∷ []) (0 ∷ [])
    ∷ p 11 (engine_write Rts Sqe rc ∷ []) (0x88 ∷ [])
    -- the verdict's number, and word 84h: by the byte rule, by the book, and by the calls
    ∷ p 12
    (verdict_number (permission_of (write_expected 0x20) before12)
    ∷ be32 0x84 (map_from (byte_of (write_expected 0x20) []) 0 before12)
    ∷ be32 0x84 (whole_effect (write_expected 0x20) [] before12)
    ∷ be32 0x84 (twice_stepped (written before12 Rtr 0x20).world)
    ∷ [])
    (0 ∷ 0x07000020 ∷ 0x07000020 ∷ 0x07000020 ∷ [])
    ∷ []

-- the single statement
pub agree : map (λ (r : Row). r.found) table ≡ map (λ (r : Row). r.given) table
unfolding everything logs initialised opened twice_stepped table set_state set_psn
agree = refl
