-- What an occupied slot's bytes are judged to be: by its request, and as the code finds it from the numbers.
use Rattle.std.specs.Prelude.{Bool, true, false, List, ℕ, ◌+◌, ◌*◌, ◌^◌, eqb, ltb, leb, get_or, Option, Some, None}
use Rattle.words.specs.Choice.{pick}
use Rattle.words.specs.Words.{le32}
use Rattle.context.specs.declared.Logs.{Logs}
use Rattle.requests.specs.Psns.{psn_fits}
use Rattle.requests.specs.declared.Request.{Request}
use Rattle.commands.specs.Commands.{edge_modifier}
use Rattle.commands.specs.declared.Table.{Table}
use Rattle.commands.specs.declared.Table.TheVariants as table
use Rattle.commands.specs.declared.Op.{Op}
use Rattle.commands.specs.declared.Op.TheVariants as op
use Rattle.engines.specs.declared.EngineNumber.{EngineNumber}
use Rattle.engines.specs.declared.EngineNumber.TheVariants as number
use Rattle.request_table.specs.Records.{is_command, numbers_hold}
use Rattle.burst_table.specs.Bursts.{total_of}
use Rattle.device_bytes.specs.Decoding.{number_held, request_in}
use Rattle.hold_codes.specs.Codes.{no_hold, one_hold, three_hold, request_hold}
use Rattle.hold_codes.specs.declared.Hold.{Hold}
use Rattle.slot_judging.specs.declared.Judged.{Judged}

-- the slot is wrong
abbrev pub bad : Option Judged
bad = None

-- a request whose numbers are right, by its status and its bursts (01, Numbers returned, 0x87)
unfoldable pub judged_by : ℕ → ℕ → ℕ → Bool → Hold → Option Judged
judged_by code m total command hold =
    pick (eqb code 1) (pick (ltb m total) (Some (record { command = command; hold = hold })) bad)
    (pick (eqb code 2) (pick (eqb m total) (Some (record { command = command; hold = no_hold })) bad)
    bad)

-- a request of a slot
abbrev pub judged_request : Logs → ℕ → ℕ → Option Request → Option Judged
judged_request g code m (Some q) = pick (numbers_hold g q) (judged_by code m (total_of q) (is_command q) (request_hold q)) bad
judged_request g code m None = bad

-- an occupied slot
unfoldable pub judged_of : Logs → List ℕ → Option Judged
judged_of g b = judged_request g (get_or b 0 0) (get_or b 2 0) (request_in b)

-- ---- a command, from its numbers

unfoldable pub record_judged : ℕ → ℕ → ℕ → ℕ → ℕ → ℕ → ℕ → ℕ → Bool → Option Judged
record_judged log kind total modifier wanted index code m writes =
    pick (eqb modifier wanted) (pick (ltb index (2 ^ log)) (judged_by code m total true (one_hold (index * 4 + kind) writes)) bad) bad

abbrev pub table_judged : Logs → Table → ℕ → ℕ → ℕ → ℕ → Option Judged
table_judged g table.Mpt modifier index code m = record_judged g.mpts 4 4 modifier 0 index code m true
table_judged g table.Eq modifier index code m = record_judged g.eqs 3 4 modifier 0 index code m true
table_judged g table.Cq modifier index code m = record_judged g.cqs 2 4 modifier 0 index code m true

abbrev pub op_judged : Logs → Op → ℕ → ℕ → ℕ → ℕ → Option Judged
op_judged g op.InitHca modifier index code m = bad
op_judged g op.CloseHca modifier index code m = bad
op_judged g op.Nop modifier index code m = bad
op_judged g (op.Sw2Hw t) modifier index code m = table_judged g t modifier index code m
op_judged g (op.Hw2Sw t) modifier index code m = table_judged g t modifier index code m
op_judged g op.ResizeCq modifier index code m = record_judged g.cqs 2 4 modifier 0 index code m true
op_judged g op.QueryQp modifier index code m = record_judged g.qps 1 16 modifier 0 index code m false
op_judged g (op.ModifyQp e) modifier index code m = record_judged g.qps 1 16 modifier (edge_modifier e) index code m true

-- ---- an engine request, from its numbers

unfoldable pub joined_judged : Logs → ℕ → ℕ → ℕ → ℕ → ℕ → Option Judged
joined_judged g n cq eq code m =
    pick (ltb cq (2 ^ g.cqs))
    (pick (ltb eq (2 ^ g.eqs)) (judged_by code m 24 false (three_hold (n * 4 + 1) (cq * 4 + 2) (eq * 4 + 3))) bad)
    bad

unfoldable pub write_judged : ℕ → ℕ → ℕ → ℕ → ℕ → Option Judged
write_judged n psn state code m = pick (psn_fits psn) (pick (leb state 6) (judged_by code m 2 false (one_hold (n * 4 + 1) true)) bad) bad

abbrev pub number_judged : Logs → EngineNumber → ℕ → List ℕ → ℕ → ℕ → Option Judged
number_judged g number.ReadState n b code m = judged_by code m 1 false (one_hold (n * 4 + 1) false)
number_judged g number.ReadNext n b code m = judged_by code m 2 false (one_hold (n * 4 + 1) false)
number_judged g number.ReadAll n b code m = judged_by code m 16 false (one_hold (n * 4 + 1) false)
number_judged g (number.Write p) n b code m = write_judged n (le32 20 b) (get_or b 24 0) code m
number_judged g number.ReadJoined n b code m = joined_judged g n (le32 12 b) (le32 16 b) code m

abbrev pub queue_pair_judged : Logs → EngineNumber → ℕ → List ℕ → ℕ → ℕ → Option Judged
queue_pair_judged g k n b code m = pick (ltb n (2 ^ g.qps)) (number_judged g k n b code m) bad

-- an engine request on queue pair n, with the rest of its numbers as the bytes have them
abbrev pub engine_in : ℕ → List ℕ → Option EngineNumber → Option Request
engine_in n b found = number_held n (le32 12 b) (le32 16 b) (le32 20 b) (get_or b 24 0) found
