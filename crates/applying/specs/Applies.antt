-- What applying a decision asks of the memory lent, and that every decision of the rules promises it.
use Rattle.std.specs.Prelude.{List, [], ℕ, ◌<◌, length, Result, Ok, Err}
use Rattle.std.proofs.Common.{arith}
use Rattle.context.proofs.Counts.{init_ranges, init_fits}
use Rattle.requests.specs.declared.Request.{Request}
use Rattle.rows.proofs.Laws.{lowest_free_is}
use Rattle.rules.specs.World.{World, store_length}
use Rattle.rules.specs.Commands.{decide_command}
use Rattle.rules.specs.Engines.{decide_engine}
use Rattle.rules.specs.Calls.{Asked}
use Rattle.rules.proofs.Laws.Lent.{Sized, lent_sized}
use Rattle.rules.specs.Laws.Decided.{Judging, Decided, plain, denied, misnamed, takes, closes, rests, opens}
use Rattle.rules.proofs.Laws.Decided.{command_decided, engine_decided}
use Rattle.rules.specs.declared.Decision.{Decision}
use Rattle.rules.specs.declared.Refusal.{Refusal}
use Rattle.rules.specs.declared.Decision.TheVariants as decide
use Rattle.apply_parts.specs.Parts.{Opening, Taking}

-- what each decision promises of the lengths of store, room and mailbox
abbrev pub Applies : ℕ → ℕ → ℕ → Result Decision Refusal → Type 0
Applies s r m (Err c) = Unit {0}
Applies s r m (Ok decide.Nothing) = Unit {0}
Applies s r m (Ok decide.Close) = Unit {0}
Applies s r m (Ok (decide.Open g)) = Opening g s
Applies s r m (Ok (decide.Take q k)) = Taking q k r m

module _ (w : World) (mail : List ℕ) where
  taking : (q : Request) (k : ℕ) → Judging w q mail → k < length w.row → Taking q k (length w.room) (length mail)
  taking q k j h =
      let z : Sized w = lent_sized w j.asking.passing.lent in
      record { below = omega (arith, z.rowed); roomed = z.roomed; enough = j.enough }

  decided_applies : {a : Asked} {d : Result Decision Refusal} → Decided w mail a d → Applies (store_length w) (length w.room) (length mail) d
  decided_applies (plain c e) = tt
  decided_applies (denied j e) = tt
  decided_applies (misnamed m) = tt
  decided_applies (takes {q = q} {k = k} j p e) = taking q k j (lowest_free_is w.row k e).inside
  decided_applies (closes o f) = tt
  decided_applies rests = tt
  decided_applies (opens {g = g} p o e) =
      record { ranges = init_ranges mail (store_length w) g e; fits = init_fits mail (store_length w) g e }

pub command_applies : (w : World) (bytes mail : List ℕ)
    → Applies (store_length w) (length w.room) (length mail) (decide_command w bytes mail)
command_applies w bytes mail = decided_applies w mail (command_decided w bytes mail)

-- an engine request has no mailbox
pub engine_applies : (w : World) (number index psn state : ℕ)
    → Applies (store_length w) (length w.room) 0 (decide_engine w number index psn state)
engine_applies w number index psn state = decided_applies w [] (engine_decided w number index psn state)
