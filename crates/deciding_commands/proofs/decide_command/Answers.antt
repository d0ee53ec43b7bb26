use Rattle.std.proofs.Common.{arith}
use Rattle.deciding.specs.Ready.{tested_fits}
use Rattle.deciding_commands.specs.Ready.{lent_refused, hcr_refused, state_refused, register_goes}
use Rattle.lengths.proofs.Lengths.{lent_told}
use Rattle.rules.specs.World.{bad_state}
use Rattle.words.proofs.Choice.{told}
use borrow.Author.Rules.{rules}
use Rattle.deciding_commands.proofs.decide_command.Goals as goal

pub returns-then-lengths_wrong : goal.returns-then-lengths_wrong
returns-then-lengths_wrong c = search (rules, lent_refused, lent_told)

pub returns-then-bytes-lt28 : goal.returns-then-bytes-lt28
returns-then-bytes-lt28 c = hcr_refused _ _ _ (omega arith)

pub returns-then-is_impossible : goal.returns-then-is_impossible
unfolding bad_state
returns-then-is_impossible c = search (rules, state_refused, lent_told, told)

pub decide_register-requires : goal.decide_register-requires
decide_register-requires c = search (rules, tested_fits)

pub returns : goal.returns
unfolding bad_state
returns c =
    let e = c.read.ensures.0 in
    let f = c.decide_register.ensures c.args.room.now in
    search (rules, register_goes, lent_told, told)
