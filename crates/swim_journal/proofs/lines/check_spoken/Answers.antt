use Rattle.swim_journal.proofs.lines.check_spoken.Goals as goal

pub returns-in-Hear : goal.returns-in-Hear
returns-in-Hear c = rw c.in-Hear.is (c.check_message.ensures, c.check_peer.ensures)
