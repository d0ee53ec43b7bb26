-- Document 01's example of a write.
use Rattle.std.specs.Prelude.{◌≡◌, refl, List, ℕ}
use Rattle.words.specs.Maps.{map_from}
use Rattle.words.specs.Words.{be_value, be_bytes}
use Rattle.context.specs.declared.QpNumber.{QpNumber}
use Rattle.edges.specs.declared.State.{State}
use Rattle.requests.specs.declared.PsnField.TheVariants.{Expected}
use Rattle.requests.specs.declared.EngineRequest.TheVariants as engine
use Rattle.requests.specs.declared.Request.TheVariants as request
use Rattle.byte_rule.specs.Bytes.{with_state, psn_byte, write_byte}
use Rattle.bursts.specs.Moves.{written_part}

-- P12: writing expected PSN 0x20 to word 0x07000010 leaves the RNR byte (01, Examples to hold it against)
pub p12 : (n : QpNumber) (s : State) (mail : List ℕ)
    → be_value (written_part (request.Engine (engine.Write Expected s n 0x20)) mail 0x84 (be_bytes 4 0x07000010)) ≡ 0x07000020
unfolding be_value be_bytes written_part map_from write_byte with_state psn_byte
p12 n s mail = refl
