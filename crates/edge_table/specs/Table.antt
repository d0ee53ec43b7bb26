-- The table of edges, to be held against the InfiniBand drawing (02, wish 3): one line for each code that a record's word 00h can have as its
-- state, 0 to 15, with everything that may leave it: commands (01, Commands, the table of edges; 0x1e also 02, wish 1) and engine writes
-- (01, Engine requests). It is data, written apart from the rule, which is `edges/Edges: permits`; `Exact: exact` proves that the two are the
-- same.
use Rattle.std.specs.Prelude.{Bool, true, false, not, List, [], ◌∷◌, ℕ, eqb, Result, Ok, Err}
use Rattle.words.specs.Choice.{pick, both}
use Rattle.edges.specs.States.{state_code, rc}
use Rattle.edges.specs.Edges.{is, to_of}
use Rattle.edges.specs.declared.State.{State}
use Rattle.edges.specs.declared.State.TheVariants.{Reset, Init, Rtr, Rts, Sqe, Sqd, Err}
use Rattle.edges.specs.declared.Edge.{Edge}
use Rattle.edges.specs.declared.Move.{Move}
use Rattle.edges.specs.declared.Move.TheVariants.{Command, Engine}
use Rattle.edges.specs.declared.EdgeDenial.{EdgeDenial}
use Rattle.edges.specs.declared.EdgeDenial.TheVariants as edgeDenial
use Rattle.request_codes.specs.Numbers.{edge_op}
use Rattle.edge_table.specs.declared.Entry.{Entry}
use Rattle.edge_table.specs.declared.Entry.TheVariants.{Always, UnlessRc, Never}

-- A command, by its op, that leads to a state.
infix 80 ◌to◌
abbrev pub ◌to◌ : ℕ → State → ℕ × State
op to s = (op, s)

-- A state that an engine write may leave, for every type, and for every type but RC.
abbrev pub always : State → State × Entry
always s = (s, Always)

abbrev pub unless_rc : State → State × Entry
unless_rc s = (s, UnlessRc)

-- What may leave a code: by command, and by engine.
pub data Line : Type 0 where
  line : ℕ → List (ℕ × State) → List (State × Entry) → Line

-- By rising code: RESET, INIT, RTR, RTS, SQE, SQD, ERR, and the nine codes that are no state's.
abbrev pub table : List Line
table =
    line 0 (0x19 to Init ∷ []) []
    ∷ line 1 (0x1a to Rtr ∷ 0x1e to Err ∷ 0x21 to Reset ∷ 0x2d to Init ∷ []) []
    ∷ line 2 (0x1b to Rts ∷ 0x1e to Err ∷ 0x21 to Reset ∷ []) (always Rtr ∷ always Err ∷ [])
    ∷ line 3 (0x1c to Rts ∷ 0x1e to Err ∷ 0x1f to Sqd ∷ 0x21 to Reset ∷ []) (always Rts ∷ unless_rc Sqe ∷ always Err ∷ [])
    ∷ line 4 (0x1d to Rts ∷ 0x1e to Err ∷ 0x21 to Reset ∷ []) (always Sqe ∷ always Err ∷ [])
    ∷ line 5 (0x1e to Err ∷ 0x20 to Rts ∷ 0x21 to Reset ∷ 0x38 to Sqd ∷ []) (unless_rc Sqe ∷ always Sqd ∷ always Err ∷ [])
    ∷ line 6 (0x21 to Reset ∷ []) []
    ∷ line 7 [] []
    ∷ line 8 [] []
    ∷ line 9 [] []
    ∷ line 10 [] []
    ∷ line 11 [] []
    ∷ line 12 [] []
    ∷ line 13 [] []
    ∷ line 14 [] []
    ∷ line 15 [] []
    ∷ []

-- ---- what the table has

-- The command is that of the edge: it has the edge's op, and leads where the edge leads.
abbrev pub is_of : ℕ × State → Edge → Bool
is_of c edge = both (eqb c.0 (edge_op edge)) (is c.1 (state_code (to_of edge)))

-- The entry of an edge among the commands of a line.
abbrev pub command_entry : Edge → List (ℕ × State) → Entry
command_entry edge [] = Never
command_entry edge (c ∷ cs) = pick (is_of c edge) Always (command_entry edge cs)

-- The entry of an engine write among those of a line, by the state that it leaves.
abbrev pub write_entry : State → List (State × Entry) → Entry
write_entry left [] = Never
write_entry left (w ∷ ws) = pick (is w.0 (state_code left)) w.1 (write_entry left ws)

abbrev pub line_entry : Move → List (ℕ × State) → List (State × Entry) → Entry
line_entry (Command edge) cs ws = command_entry edge cs
line_entry (Engine left) cs ws = write_entry left ws

-- The entry of a move in the line of a code; a code that has no line has no entry.
abbrev pub entry_in : List Line → Move → ℕ → Entry
entry_in [] asked code = Never
entry_in (line n cs ws ∷ ls) asked code = pick (eqb code n) (line_entry asked cs ws) (entry_in ls asked code)

unfoldable pub entry_of : Move → ℕ → Entry
entry_of asked code = entry_in table asked code

-- The service types for which an entry permits a move.
abbrev pub allows : Entry → ℕ → Bool
allows Always service = true
allows UnlessRc service = not (eqb service rc)
allows Never service = false

-- What a move is told by its entry: one that is for every type but RC is refused for the type where that is RC (02, wish 5).
abbrev pub verdict_by : Entry → ℕ → Result (Unit {0}) EdgeDenial
verdict_by Always service = Ok tt
verdict_by UnlessRc service = pick (eqb service rc) (Err edgeDenial.NotForType) (Ok tt)
verdict_by Never service = Err edgeDenial.NotPermitted
