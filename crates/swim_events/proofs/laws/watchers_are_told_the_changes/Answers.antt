use Rattle.swim_events.proofs.Entries.{telling_begins, telling_sends, telling_told}
use Rattle.swim_events.proofs.laws.watchers_are_told_the_changes.Goals as goal

pub returns-clause-begins : goal.returns-clause-begins
returns-clause-begins c = telling_begins

pub returns-clause-sends : goal.returns-clause-sends
returns-clause-sends c = telling_sends

pub returns-clause-told : goal.returns-clause-told
returns-clause-told c = telling_told
