-- A slot that is handed in with a joined read: its names are judged by range alone, whatever the records now say (02, wish 2).
use Rattle.std.specs.Prelude.{◌≡◌, refl, true, List, [], ◌∷◌, ℕ, replicate}
use Rattle.slots.specs.Slots.{slot}
use Rattle.slots.specs.declared.Slot.{Slot}
use Rattle.slots.specs.declared.Status.TheVariants.{Free, Running, Finished}
use Rattle.rules.specs.World.{World, world, hca_of}
use Rattle.rules.specs.Names.{joins}
use Rattle.rules.specs.Calls.{engine_request, step, collection}
use Rattle.rules.proofs.Scripts.{Line, room_there, store_there, ◌gets◌, lent_of, given_by, answers_from, everything}

-- open, with two queue pairs, two completion queues, one event queue and one memory region, all records zero: each names completion queue
-- 0 and event queue 0
unfoldable pub handed : Slot → World
handed s =
    world (hca_of true (record { qps = 1; cqs = 1; eqs = 0; mpts = 0 }) store_there)
    (s ∷ slot Free ∷ slot Free ∷ slot Free ∷ slot Free ∷ slot Free ∷ slot Free ∷ slot Free ∷ [])
    (replicate store_there 0) (replicate room_there 0xdd)

unfoldable pub running_on : ℕ → ℕ → ℕ → Slot
running_on n c e = slot (Running 0 (joins (record { 0 = n }) (record { 0 = c }) (record { 0 = e })))

-- in range, though no record names it: the step is made, and completion queue 1 is held
unfoldable pub in_range : List Line
in_range =
    step 0 gets (0 ∷ 23 ∷ [])
    ∷ engine_request 7 0 0 0 gets (0 ∷ 1 ∷ [])
    ∷ []

pub in_range_lem : answers_from (handed (running_on 0 1 0)) (lent_of in_range) ≡ given_by in_range
unfolding everything handed running_on in_range
in_range_lem = refl

-- out of range, the queue pair, the completion queue or the event queue: every call but reset gets 0x87, running or finished
unfoldable pub out_of_range : List Line
out_of_range =
    step 0 gets (0x87 ∷ [])
    ∷ engine_request 7 0 0 0 gets (0x87 ∷ [])
    ∷ collection 0 (replicate 384 9) gets (0x87 ∷ [])
    ∷ []

pub out_of_range_lem : (answers_from (handed (running_on 2 0 0)) (lent_of out_of_range) ≡ given_by out_of_range)
    × (answers_from (handed (running_on 0 2 0)) (lent_of out_of_range) ≡ given_by out_of_range)
    × (answers_from (handed (running_on 0 0 1)) (lent_of out_of_range) ≡ given_by out_of_range)
unfolding everything handed running_on out_of_range
out_of_range_lem = (refl, refl, refl)

-- finished after 24 bursts, and not after 16
unfoldable pub finished_after : ℕ → Slot
finished_after m = slot (Finished m (joins (record { 0 = 0 }) (record { 0 = 0 }) (record { 0 = 0 })))

unfoldable pub collects : List Line
collects = collection 0 [] gets (0x83 ∷ []) ∷ []

unfoldable pub too_early : List Line
too_early = collection 0 [] gets (0x87 ∷ []) ∷ []

pub all_bursts : (answers_from (handed (finished_after 24)) (lent_of collects) ≡ given_by collects)
    × (answers_from (handed (finished_after 16)) (lent_of too_early) ≡ given_by too_early)
unfolding everything handed finished_after collects too_early
all_bursts = (refl, refl)
