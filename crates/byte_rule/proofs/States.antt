-- The state that the byte rule leaves in byte 0: the one that the edge leads to, or that the engine write asks for (01, Commands; Engine
-- requests).
use Rattle.std.specs.Prelude.{◌≡◌, refl, List, ℕ, ◌/◌}
use Rattle.std.proofs.Common.{arith}
use Rattle.edges.specs.States.{state_code}
use Rattle.edges.specs.Edges.{to_of}
use Rattle.edges.specs.declared.State.{State}
use Rattle.edges.specs.declared.Edge.{Edge}
use Rattle.edges.specs.declared.Edge.TheVariants.{ResetToInit, InitToInit, InitToRtr, RtrToRts, RtsToRts, SqeToRts}
use Rattle.edges.specs.declared.Edge.TheVariants.{RtsToSqd, SqdToSqd, SqdToRts, ToErr, ToReset}
use Rattle.requests.specs.declared.PsnField.{PsnField}
use Rattle.burst_table.specs.Bursts.{psn_place}
use Rattle.byte_rule.specs.Bytes.{with_state, taken_byte, edge_byte, psn_byte, write_byte}

-- Byte 0 has the state in its top half.
with_state_lem : (s : State) (b : ℕ) → with_state s 0 b / 16 ≡ state_code s
unfolding with_state
with_state_lem s b = omega arith

-- An edge. RESET has the code 0, so a record that is all zero is in it.
pub edge_state : (e : Edge) (mail : List ℕ) (b : ℕ) → edge_byte e mail 0 b / 16 ≡ state_code (to_of e)
unfolding edge_byte
edge_state ResetToInit mail b = with_state_lem (to_of ResetToInit) (taken_byte ResetToInit mail 0 b)
edge_state InitToInit mail b = with_state_lem (to_of InitToInit) (taken_byte InitToInit mail 0 b)
edge_state InitToRtr mail b = with_state_lem (to_of InitToRtr) (taken_byte InitToRtr mail 0 b)
edge_state RtrToRts mail b = with_state_lem (to_of RtrToRts) (taken_byte RtrToRts mail 0 b)
edge_state RtsToRts mail b = with_state_lem (to_of RtsToRts) (taken_byte RtsToRts mail 0 b)
edge_state SqeToRts mail b = with_state_lem (to_of SqeToRts) (taken_byte SqeToRts mail 0 b)
edge_state RtsToSqd mail b = with_state_lem (to_of RtsToSqd) (taken_byte RtsToSqd mail 0 b)
edge_state SqdToSqd mail b = with_state_lem (to_of SqdToSqd) (taken_byte SqdToSqd mail 0 b)
edge_state SqdToRts mail b = with_state_lem (to_of SqdToRts) (taken_byte SqdToRts mail 0 b)
edge_state ToErr mail b = with_state_lem (to_of ToErr) (taken_byte ToErr mail 0 b)
edge_state ToReset mail b = refl

-- An engine write.
pub write_state : (p : PsnField) (psn : ℕ) (s : State) (b : ℕ) → write_byte p psn s 0 b / 16 ≡ state_code s
unfolding write_byte
write_state p psn s b = with_state_lem s (psn_byte (psn_place p) psn 0 b)
