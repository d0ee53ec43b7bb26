-- From op, op_modifier and in_modifier to the command (01, Commands).
use Rattle.std.specs.Prelude.{Bool, false, List, [], ◌∷◌, ℕ, eqb, ltb, Option, Some, None}
use Rattle.words.specs.Choice.{pick, both, either}
use Rattle.context.specs.Layout.{count_of}
use Rattle.numbers.specs.Numbers.{qp_of, cq_of, eq_of, mpt_of}
use Rattle.context.specs.declared.Kind.{Kind}
use Rattle.context.specs.declared.Kind.TheVariants as kind
use Rattle.context.specs.declared.Logs.{Logs}
use Rattle.context.specs.declared.CqNumber.{CqNumber}
use Rattle.context.specs.declared.EqNumber.{EqNumber}
use Rattle.context.specs.declared.MptNumber.{MptNumber}
use Rattle.context.specs.declared.QpNumber.{QpNumber}
use Rattle.edges.specs.declared.Edge.{Edge}
use Rattle.edges.specs.declared.Edge.TheVariants.{ResetToInit, InitToInit, InitToRtr, RtrToRts, RtsToRts, SqeToRts}
use Rattle.edges.specs.declared.Edge.TheVariants.{RtsToSqd, SqdToSqd, SqdToRts, ToErr, ToReset}
use Rattle.commands.specs.declared.Table.{Table}
use Rattle.commands.specs.declared.Table.TheVariants as table
use Rattle.requests.specs.declared.Owned.{Owned}
use Rattle.requests.specs.declared.Owned.TheVariants as owned
use Rattle.requests.specs.declared.Command.TheVariants as command
use Rattle.commands.specs.declared.Op.{Op}
use Rattle.commands.specs.declared.Op.TheVariants as op
use Rattle.commands.specs.declared.CommandAsked.{CommandAsked}
use Rattle.commands.specs.declared.CommandAsked.TheVariants as asked

-- The ops that are served, each with its code; every other code, also one that document 000 lists, is not served (01, Commands).
abbrev pub op_table : List (ℕ × Op)
op_table =
    (0x07, op.InitHca)
    ∷ (0x08, op.CloseHca)
    ∷ (0x31, op.Nop)
    ∷ (0x0d, op.Sw2Hw table.Mpt)
    ∷ (0x13, op.Sw2Hw table.Eq)
    ∷ (0x16, op.Sw2Hw table.Cq)
    ∷ (0x0f, op.Hw2Sw table.Mpt)
    ∷ (0x14, op.Hw2Sw table.Eq)
    ∷ (0x17, op.Hw2Sw table.Cq)
    ∷ (0x2c, op.ResizeCq)
    ∷ (0x22, op.QueryQp)
    ∷ (0x19, op.ModifyQp ResetToInit)
    ∷ (0x2d, op.ModifyQp InitToInit)
    ∷ (0x1a, op.ModifyQp InitToRtr)
    ∷ (0x1b, op.ModifyQp RtrToRts)
    ∷ (0x1c, op.ModifyQp RtsToRts)
    ∷ (0x1d, op.ModifyQp SqeToRts)
    ∷ (0x1f, op.ModifyQp RtsToSqd)
    ∷ (0x38, op.ModifyQp SqdToSqd)
    ∷ (0x20, op.ModifyQp SqdToRts)
    ∷ (0x1e, op.ModifyQp ToErr)
    ∷ (0x21, op.ModifyQp ToReset)
    ∷ []

abbrev pub look_up : List (ℕ × Op) → ℕ → Option Op
look_up [] code = None
look_up (row ∷ rows) code = pick (eqb code row.0) (Some row.1) (look_up rows code)

unfoldable pub read_op : ℕ → Option Op
read_op code = look_up op_table code

-- The op_modifier of the edges to ERR and to RESET is 3, and that of every other op is 0 (01, Commands).
abbrev pub edge_modifier : Edge → ℕ
edge_modifier ResetToInit = 0
edge_modifier InitToInit = 0
edge_modifier InitToRtr = 0
edge_modifier RtrToRts = 0
edge_modifier RtsToRts = 0
edge_modifier SqeToRts = 0
edge_modifier RtsToSqd = 0
edge_modifier SqdToSqd = 0
edge_modifier SqdToRts = 0
edge_modifier ToErr = 3
edge_modifier ToReset = 3

abbrev pub op_modifier_of : Op → ℕ
op_modifier_of op.InitHca = 0
op_modifier_of op.CloseHca = 0
op_modifier_of op.Nop = 0
op_modifier_of (op.Sw2Hw t) = 0
op_modifier_of (op.Hw2Sw t) = 0
op_modifier_of op.ResizeCq = 0
op_modifier_of op.QueryQp = 0
op_modifier_of (op.ModifyQp e) = edge_modifier e

-- in_modifier is the number of a record of the op's table, if it is below that table's count (01, Commands).
abbrev pub on_mpt : Option MptNumber → Option Owned
on_mpt (Some n) = Some (owned.Mpt n)
on_mpt None = None

abbrev pub on_eq : Option EqNumber → Option Owned
on_eq (Some n) = Some (owned.Eq n)
on_eq None = None

abbrev pub on_cq : Option CqNumber → Option Owned
on_cq (Some n) = Some (owned.Cq n)
on_cq None = None

abbrev pub owned_of : Logs → Table → ℕ → Option Owned
owned_of g table.Mpt n = on_mpt (mpt_of g n)
owned_of g table.Eq n = on_eq (eq_of g n)
owned_of g table.Cq n = on_cq (cq_of g n)

abbrev pub sw2hw_of : Option Owned → Option CommandAsked
sw2hw_of (Some r) = Some (asked.OnRecord (command.Sw2Hw r))
sw2hw_of None = None

abbrev pub hw2sw_of : Option Owned → Option CommandAsked
hw2sw_of (Some r) = Some (asked.OnRecord (command.Hw2Sw r))
hw2sw_of None = None

abbrev pub resize_of : Option CqNumber → Option CommandAsked
resize_of (Some n) = Some (asked.OnRecord (command.ResizeCq n))
resize_of None = None

abbrev pub query_of : Option QpNumber → Option CommandAsked
query_of (Some n) = Some (asked.OnRecord (command.QueryQp n))
query_of None = None

abbrev pub modify_of : Edge → Option QpNumber → Option CommandAsked
modify_of e (Some n) = Some (asked.OnRecord (command.ModifyQp e n))
modify_of e None = None

-- The in_modifier of a command without a record is 0 (01, Commands).
abbrev pub at_once : Option CommandAsked → ℕ → Option CommandAsked
at_once c n = pick (eqb n 0) c None

abbrev pub addressed : Logs → Op → ℕ → Option CommandAsked
addressed g op.InitHca n = at_once (Some asked.InitHca) n
addressed g op.CloseHca n = at_once (Some asked.CloseHca) n
addressed g op.Nop n = at_once (Some asked.Nop) n
addressed g (op.Sw2Hw t) n = sw2hw_of (owned_of g t n)
addressed g (op.Hw2Sw t) n = hw2sw_of (owned_of g t n)
addressed g op.ResizeCq n = resize_of (cq_of g n)
addressed g op.QueryQp n = query_of (qp_of g n)
addressed g (op.ModifyQp e) n = modify_of e (qp_of g n)

-- The op_modifier is judged, and the in_modifier; both give 3 (01, Numbers returned).
unfoldable pub read_command : Logs → Op → ℕ → ℕ → Option CommandAsked
read_command g o modifier n = pick (eqb modifier (op_modifier_of o)) (addressed g o n) None

-- 01's number for each answer: 2 is that of an op that is not served, 3 that of a wrong modifier (01, Numbers returned).
abbrev pub op_found_number : Option Op → ℕ
op_found_number (Some o) = 0
op_found_number None = 2

abbrev pub command_found_number : Option CommandAsked → ℕ
command_found_number (Some asked.InitHca) = 0
command_found_number (Some asked.CloseHca) = 0
command_found_number (Some asked.Nop) = 0
command_found_number (Some (asked.OnRecord c)) = 0
command_found_number None = 3

-- The 22 op codes that are served (01, Commands).
abbrev pub served_ops : List ℕ
served_ops =
    0x07 ∷ 0x08 ∷ 0x31 ∷ 0x0d ∷ 0x13 ∷ 0x16 ∷ 0x0f ∷ 0x14 ∷ 0x17 ∷ 0x2c ∷ 0x22
    ∷ 0x19 ∷ 0x2d ∷ 0x1a ∷ 0x1b ∷ 0x1c ∷ 0x1d ∷ 0x1f ∷ 0x38 ∷ 0x20 ∷ 0x1e ∷ 0x21 ∷ []

abbrev pub one_of : List ℕ → ℕ → Bool
one_of [] n = false
one_of (k ∷ ks) n = either (eqb n k) (one_of ks n)

unfoldable pub is_served : ℕ → Bool
is_served code = one_of served_ops code

-- A command is right if op_modifier is the op's and in_modifier names a record of the op's own table, or is 0 for a command
-- without a record (01, Commands).
abbrev pub kind_of_table : Table → Kind
kind_of_table table.Mpt = kind.Mpt
kind_of_table table.Eq = kind.Eq
kind_of_table table.Cq = kind.Cq

abbrev pub in_modifier_right : Logs → Op → ℕ → Bool
in_modifier_right g op.InitHca n = eqb n 0
in_modifier_right g op.CloseHca n = eqb n 0
in_modifier_right g op.Nop n = eqb n 0
in_modifier_right g (op.Sw2Hw t) n = ltb n (count_of g (kind_of_table t))
in_modifier_right g (op.Hw2Sw t) n = ltb n (count_of g (kind_of_table t))
in_modifier_right g op.ResizeCq n = ltb n (count_of g kind.Cq)
in_modifier_right g op.QueryQp n = ltb n (count_of g kind.Qp)
in_modifier_right g (op.ModifyQp e) n = ltb n (count_of g kind.Qp)

unfoldable pub command_right : Logs → Op → ℕ → ℕ → Bool
command_right g o modifier n = both (eqb modifier (op_modifier_of o)) (in_modifier_right g o n)

-- What an op asks for on record n of its table.
abbrev pub owned_at : Table → ℕ → Owned
owned_at table.Mpt n = owned.Mpt (record { 0 = n })
owned_at table.Eq n = owned.Eq (record { 0 = n })
owned_at table.Cq n = owned.Cq (record { 0 = n })

abbrev pub command_on : Op → ℕ → Option CommandAsked
command_on op.InitHca n = Some asked.InitHca
command_on op.CloseHca n = Some asked.CloseHca
command_on op.Nop n = Some asked.Nop
command_on (op.Sw2Hw t) n = Some (asked.OnRecord (command.Sw2Hw (owned_at t n)))
command_on (op.Hw2Sw t) n = Some (asked.OnRecord (command.Hw2Sw (owned_at t n)))
command_on op.ResizeCq n = Some (asked.OnRecord (command.ResizeCq (record { 0 = n })))
command_on op.QueryQp n = Some (asked.OnRecord (command.QueryQp (record { 0 = n })))
command_on (op.ModifyQp e) n = Some (asked.OnRecord (command.ModifyQp e (record { 0 = n })))
