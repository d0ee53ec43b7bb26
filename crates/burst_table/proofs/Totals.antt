-- Every request moves a burst.
use Rattle.std.specs.Prelude.{List, ◌≤◌, length}
use Rattle.std.proofs.Common.{arith, lit≤}
use Rattle.context.proofs.Records.{size_least}
use Rattle.context.specs.declared.Record.{Record}
use Rattle.requests.specs.declared.EngineRequest.{EngineRequest}
use Rattle.requests.specs.declared.EngineRequest.TheVariants as engine
use Rattle.requests.specs.declared.Request.{Request}
use Rattle.requests.specs.declared.Request.TheVariants as request
use Rattle.request_table.specs.Records.{record_of, records_of}
use Rattle.burst_table.specs.Sizes.{burst_size}
use Rattle.burst_table.specs.Bursts.{joined_size, burst_count, Shape, whole, state_only, state_and_psn, shape_of, bursts_by, total_of}
use Rattle.burst_table.proofs.Touched.{length_row}
use Rattle.burst_table.proofs.Laws.{count_bursts}

total_by : (s : Shape) (Xs : List Record) → burst_size ≤ joined_size Xs → 1 ≤ length (bursts_by s Xs)
total_by whole Xs h = omega (arith, length_row 0 (burst_count Xs), count_bursts Xs)
total_by state_only Xs h = lit≤ tt
total_by (state_and_psn p) Xs h = lit≤ tt

engine_some : (e : EngineRequest) → burst_size ≤ joined_size (records_of (request.Engine e))
engine_some (engine.ReadState n) = lit≤ tt
engine_some (engine.ReadNext n) = lit≤ tt
engine_some (engine.ReadAll n) = lit≤ tt
engine_some (engine.Write p s n psn) = lit≤ tt
engine_some (engine.ReadJoined n c e) = lit≤ tt

records_some : (q : Request) → burst_size ≤ joined_size (records_of q)
records_some (request.Command c) = omega (arith, size_least (record_of (request.Command c)))
records_some (request.Engine e) = engine_some e

pub total_positive : (q : Request) → 1 ≤ total_of q
total_positive q = total_by (shape_of q) (records_of q) (records_some q)
