-- THE THEOREMS about chains of calls over a lent row. They assume nothing; the statements are those of `chains`, of this form of the
-- operations.
use Rattle.chains.specs.Links.{command_promised, engine_promised, step_promised, collect_promised, reset_promised}
use Rattle.chains.specs.Claims.{Promises, Fixed, Refusals, States, Fronts, Serial, Holding, Zeroed}
use Rattle.chains.proofs.Theorems.{every_form}
use Rattle.lent_chains.specs.Links.{LentLink, command_link, engine_link, step_link, collect_link, reset_link}

-- what each operation ensures gives the promise
pub promises : Promises LentLink
promises u v c a (command_link hca row store room bytes mail r rowLeft storeLeft room_left e) = command_promised e
promises u v c a (engine_link hca row store room number index psn state r rowLeft storeLeft room_left e) = engine_promised e
promises u v c a (step_link hca row store room k r rowLeft storeLeft room_left e) = step_promised e
promises u v c a (collect_link hca row store room k out r rowLeft outLeft e) = collect_promised e
promises u v c a (reset_link hca row store room r rowLeft e) = reset_promised e

-- a call answers and leaves what the rules say
pub fixed : Fixed LentLink
fixed = (every_form LentLink promises).fixed

-- a refusal leaves everything, a row of another length than eight too
pub refusals : Refusals LentLink
refusals = (every_form LentLink promises).refusals

-- a queue pair's state moves only along permitted edges, by the next call after every chain and so by every call of it
pub demand2 : States LentLink
demand2 = (every_form LentLink promises).states

pub fronts : Fronts LentLink
fronts = (every_form LentLink promises).fronts

-- the finished requests, given to the plain book in the order of acceptance, are all accepted; records, answers and refusals are the
-- book's
pub demand3 : Serial LentLink
demand3 = (every_form LentLink promises).serial

-- while a joined read runs, the names in its slot are those in the store, and those that the book finds at its place
pub running : Holding LentLink
running = (every_form LentLink promises).holding

-- the book starts with records that are all zero
pub zeroed : Zeroed LentLink
zeroed = (every_form LentLink promises).zeroed
