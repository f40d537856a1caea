use Rattle.swim_journal.proofs.Back.{read_back}
use Rattle.swim_journal.proofs.lines.read_back.Goals as goal

pub returns : goal.returns
returns c = read_back c.args.call.now c.check_spoken.ensures
