use Rattle.std.proofs.Common.{◌≡◌, codes, rules}
use Rattle.swim_web.proofs.Reading.{failed_is}
use Rattle.swim_web.proofs.tables.read_state.Goals as goal

pub returns-clause-found : goal.returns-clause-found
returns-clause-found c =
    let is : c.in_ok-word.word.now ≡ codes "failed" = search rules in
    failed_is c.args.text.now c.in_ok-word.word.now c.in_ok-word.number.now c.in_ok-number.number
    c.in_ok-word.ensures is c.in_ok-number.ensures.found.1
