-- THE THEOREMS about chains of calls. They assume nothing.
use Rattle.chains.specs.Links.{Link}
use Rattle.chains.specs.Claims.{Promises, Kept, Fixed, Refusals, States, Fronts, Serial, Holding, Zeroed, EveryForm}
use Rattle.chains.proofs.Proofs as proofs

-- ---- of every form of the operations that gives the promise

pub every_form : EveryForm
every_form F gives = record {
  fixed = proofs.fixed F gives;
  refusals = proofs.refusals F gives;
  states = proofs.states F gives;
  fronts = proofs.fronts F gives;
  serial = proofs.serial F gives;
  holding = proofs.holding F gives;
  zeroed = proofs.zeroed F gives;
}

-- the promise can be kept, for every call
pub kept : Kept
kept = proofs.kept

-- ---- of the operations that there are

-- what each of them ensures gives the promise
pub promises : Promises Link
promises = proofs.link_promises

-- a call answers and leaves what the rules say
pub fixed : Fixed Link
fixed = (every_form Link promises).fixed

-- a refusal leaves everything
pub refusals : Refusals Link
refusals = (every_form Link promises).refusals

-- a queue pair's state moves only along permitted edges, by the next call after every chain and so by every call of it
pub demand2 : States Link
demand2 = (every_form Link promises).states

pub fronts : Fronts Link
fronts = (every_form Link promises).fronts

-- the finished requests, given to the plain book in the order of acceptance, are all accepted; records, answers and refusals are the
-- book's
pub demand3 : Serial Link
demand3 = (every_form Link promises).serial

-- while a joined read runs, the names in its slot are those in the store, and those that the book finds at its place
pub running : Holding Link
running = (every_form Link promises).holding

-- the book starts with records that are all zero
pub zeroed : Zeroed Link
zeroed = (every_form Link promises).zeroed
