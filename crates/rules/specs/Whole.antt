-- The whole effect of each write on its record, as the plain book makes it: word by word where document 01 speaks of words.
-- Nothing here comes from bursts; that the bursts make the same of a record is a law (Agree).
use Rattle.std.specs.Prelude.{List, [], ◌∷◌, ◌++◌, ℕ, ◌+◌, ◌-◌, ◌*◌, ◌%◌, get_or, replicate}
use Rattle.words.specs.Parts.{part, splice}
use Rattle.words.specs.Words.{be_bytes}
use Rattle.edges.specs.States.{state_code}
use Rattle.edges.specs.declared.State.{State}
use Rattle.edges.specs.declared.State.TheVariants.{Init, Rtr, Rts, Sqd, Err}
use Rattle.edges.specs.declared.Edge.{Edge}
use Rattle.edges.specs.declared.Edge.TheVariants.{ResetToInit, InitToInit, InitToRtr, RtrToRts, RtsToRts}
use Rattle.edges.specs.declared.Edge.TheVariants.{SqeToRts, RtsToSqd, SqdToSqd, SqdToRts, ToErr, ToReset}
use Rattle.requests.specs.declared.PsnField.{PsnField}
use Rattle.requests.specs.declared.PsnField.TheVariants.{NextSend, LastAcked, Expected}
use Rattle.requests.specs.declared.Owned.{Owned}
use Rattle.requests.specs.declared.Owned.TheVariants as owned
use Rattle.requests.specs.declared.Command.{Command}
use Rattle.requests.specs.declared.Command.TheVariants as command
use Rattle.requests.specs.declared.EngineRequest.{EngineRequest}
use Rattle.requests.specs.declared.EngineRequest.TheVariants as engine
use Rattle.requests.specs.declared.Request.{Request}
use Rattle.requests.specs.declared.Request.TheVariants as request

-- the words at the offsets first to last are taken from the image
unfoldable pub take_words : ℕ → ℕ → List ℕ → List ℕ → List ℕ
take_words first last image r = splice first (part first (last + 4 - first) image) r

-- "the state [is] in 31:28" of word 00h, which is big-endian: the top half of byte 0
unfoldable pub set_state : State → List ℕ → List ℕ
set_state s r = splice 0 ((state_code s * 16 + get_or r 0 0 % 16) ∷ []) r

-- The table of edges: "Only the words named are taken; the state is set; the rest of the record stays." Of the edge to RESET:
-- "all 256 bytes zero".
abbrev pub edge_effect : Edge → List ℕ → List ℕ → List ℕ
edge_effect ResetToInit image r = set_state Init (take_words 0x00 0xa0 image r)
edge_effect InitToInit image r = set_state Init (take_words 0x04 0x4c image r)
edge_effect InitToRtr image r = set_state Rtr (take_words 0x84 0x84 image (take_words 0x04 0x4c image r))
edge_effect RtrToRts image r = set_state Rts (take_words 0x7c 0x7c image (take_words 0x6c 0x6c image (take_words 0x20 0x28 image r)))
edge_effect RtsToRts image r = set_state Rts (take_words 0x20 0x28 image r)
edge_effect SqeToRts image r = set_state Rts (take_words 0x98 0x98 image r)
edge_effect RtsToSqd image r = set_state Sqd r
edge_effect SqdToSqd image r = set_state Sqd (take_words 0x98 0x98 image (take_words 0x20 0x4c image r))
edge_effect SqdToRts image r = set_state Rts (take_words 0x98 0x98 image (take_words 0x20 0x4c image r))
edge_effect ToErr image r = set_state Err r
edge_effect ToReset image r = replicate 256 0

-- "CQ, EQ, MPT: 56, 48 and 56 mailbox bytes are stored; byte 63 is 1 while the hardware owns the record, all else is 0."
abbrev pub owned_effect : Owned → List ℕ → List ℕ
owned_effect (owned.Mpt n) mail = part 0 56 mail ++ (replicate 7 0 ++ (1 ∷ []))
owned_effect (owned.Eq n) mail = part 0 48 mail ++ (replicate 15 0 ++ (1 ∷ []))
owned_effect (owned.Cq n) mail = part 0 56 mail ++ (replicate 7 0 ++ (1 ∷ []))

-- "byte 00h becomes record byte 0Ch, word 04h becomes word 18h"
unfoldable pub resize_effect : List ℕ → List ℕ → List ℕ
resize_effect mail r = splice 0x18 (part 0x04 4 mail) (splice 0x0c (part 0x00 1 mail) r)

-- "A PSN is the low 24 bits; writing one keeps the top byte."
unfoldable pub set_psn : ℕ → ℕ → List ℕ → List ℕ
set_psn at psn r = splice (at + 1) (be_bytes 3 psn) r

-- "next_send_psn 6Ch, last_acked_psn 7Ch, 84h (RNR byte in 31:24, expected PSN in 23:0)"
abbrev pub psn_effect : PsnField → ℕ → List ℕ → List ℕ
psn_effect NextSend psn r = set_psn 0x6c psn r
psn_effect LastAcked psn r = set_psn 0x7c psn r
psn_effect Expected psn r = set_psn 0x84 psn r

abbrev pub command_effect : Command → List ℕ → List ℕ → List ℕ
command_effect (command.Sw2Hw o) mail r = owned_effect o mail
-- "and becomes zero"
command_effect (command.Hw2Sw o) mail r = replicate 64 0
command_effect (command.ResizeCq n) mail r = resize_effect mail r
command_effect (command.QueryQp n) mail r = r
command_effect (command.ModifyQp e n) mail r = edge_effect e mail r

-- "Reads (.. requests 1, 2 and 6): .. Nothing changes."; "3 write next PSN and state; 4 write last acked PSN and state; 5 write expected
-- PSN and state"
abbrev pub engine_effect : EngineRequest → List ℕ → List ℕ
engine_effect (engine.ReadState n) r = r
engine_effect (engine.ReadNext n) r = r
engine_effect (engine.ReadAll n) r = r
engine_effect (engine.Write p s n psn) r = set_state s (psn_effect p psn r)
engine_effect (engine.ReadJoined n c e) r = r

abbrev pub whole_effect : Request → List ℕ → List ℕ → List ℕ
whole_effect (request.Command c) mail r = command_effect c mail r
whole_effect (request.Engine e) mail r = engine_effect e r
