use Rattle.std.proofs.Common.{rules, ◌≡◌, eqb, count_by}
use Rattle.script_words.proofs.Turns.{spaces_counted}
use Rattle.script_words.proofs.words.Goals as goal

pub returns : goal.returns
returns c =
    let counted : c.count.result ≡ count_by (λ x. eqb x 32) c.args.line.now = search rules in
    rw (counted, spaces_counted c.args.line.now)
