use Rattle.deciding.specs.Ready.{tested_fits, number_told}
use Rattle.lengths.proofs.Lengths.{lent_told}
use Rattle.rules.specs.Engines.{decide_engine}
use Rattle.rules.specs.World.{bad_state}
use Rattle.words.proofs.Choice.{cases}
use borrow.Author.Rules.{rules}
use Rattle.deciding.proofs.decide_engine.Goals as goal

pub returns-then-lengths_wrong : goal.returns-then-lengths_wrong
unfolding decide_engine bad_state
returns-then-lengths_wrong c = search (cases, lent_told) depth 8

pub returns-then-is_impossible : goal.returns-then-is_impossible
unfolding decide_engine bad_state
returns-then-is_impossible c = search (cases, lent_told) depth 8

pub decide_number-requires : goal.decide_number-requires
decide_number-requires c = search (rules, tested_fits)

pub returns : goal.returns
unfolding decide_engine bad_state
returns c =
    let e = c.read_number.ensures.0 in
    let f = c.decide_number.ensures c.args.room.now in
    search (cases, lent_told, number_told) depth 8
