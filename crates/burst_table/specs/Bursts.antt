-- The burst table: which bursts a request moves, in ascending order, each by its place among the bursts of the request's records.
use Rattle.std.specs.Prelude.{List, [], ◌∷◌, ℕ, zero, suc, ◌+◌, ◌*◌, ◌/◌, length, get_or}
use Rattle.context.specs.Layout.{record_size}
use Rattle.context.specs.declared.Record.{Record}
use Rattle.requests.specs.declared.Command.{Command}
use Rattle.requests.specs.declared.PsnField.{PsnField}
use Rattle.requests.specs.declared.PsnField.TheVariants.{NextSend, LastAcked, Expected}
use Rattle.requests.specs.declared.EngineRequest.{EngineRequest}
use Rattle.requests.specs.declared.EngineRequest.TheVariants as engine
use Rattle.requests.specs.declared.Request.{Request}
use Rattle.requests.specs.declared.Request.TheVariants as request
use Rattle.request_table.specs.Records.{records_of}
use Rattle.burst_table.specs.Sizes.{burst_size}

-- where the word with a PSN starts in a queue pair's record (01, The context store)
abbrev pub psn_place : PsnField → ℕ
psn_place NextSend = 0x6c
psn_place LastAcked = 0x7c
psn_place Expected = 0x84

-- n bursts from the s-th on
abbrev pub bursts_from : ℕ → ℕ → List ℕ
bursts_from s zero = []
bursts_from s (suc n) = s ∷ bursts_from (suc s) n

-- the bytes of some records, one behind the other, and their bursts
abbrev pub joined_size : List Record → ℕ
joined_size [] = 0
joined_size (X ∷ Xs) = record_size X + joined_size Xs

abbrev pub burst_count : List Record → ℕ
burst_count [] = 0
burst_count (X ∷ Xs) = record_size X / burst_size + burst_count Xs

-- what a request moves of its records: all of it, the burst with the state, or that burst and then the one with a PSN
pub data Shape : Type 0 where
  whole : Shape
  state_only : Shape
  state_and_psn : PsnField → Shape

-- commands and request 6 move all bursts, request 1 the state's, requests 2 to 5 the state's and the PSN's
-- (01, Bursts, slots and holds); request 7 moves all bursts of its three records (02, wish 2)
abbrev pub engine_shape : EngineRequest → Shape
engine_shape (engine.ReadState n) = state_only
engine_shape (engine.ReadNext n) = state_and_psn NextSend
engine_shape (engine.ReadAll n) = whole
engine_shape (engine.Write p s n psn) = state_and_psn p
engine_shape (engine.ReadJoined n c e) = whole

abbrev pub shape_of : Request → Shape
shape_of (request.Command c) = whole
shape_of (request.Engine e) = engine_shape e

-- the bursts of a shape over some records: the state stands in burst 0, a PSN in the burst with its word
abbrev pub bursts_by : Shape → List Record → List ℕ
bursts_by whole Xs = bursts_from 0 (burst_count Xs)
bursts_by state_only Xs = 0 ∷ []
bursts_by (state_and_psn p) Xs = 0 ∷ psn_place p / burst_size ∷ []

abbrev pub bursts_of : Request → List ℕ
bursts_of q = bursts_by (shape_of q) (records_of q)

abbrev pub command_bursts : Command → List ℕ
command_bursts c = bursts_of (request.Command c)

abbrev pub engine_bursts : EngineRequest → List ℕ
engine_bursts e = bursts_of (request.Engine e)

-- how many bursts a request moves
abbrev pub total_of : Request → ℕ
total_of q = length (bursts_of q)

-- where burst m starts in the records, and so in the slot's part of the room
abbrev pub offset_of : Request → ℕ → ℕ
offset_of q m = get_or (bursts_of q) m 0 * burst_size
