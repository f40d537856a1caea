use Rattle.swim_journal.proofs.PlayedBack.{played_back, differs_where_refused, plays_well}
use Rattle.swim_journal.proofs.laws.a_journal_file_is_its_run.Goals as goal

pub returns-clause-played : goal.returns-clause-played
returns-clause-played c = played_back

pub returns-clause-differs : goal.returns-clause-differs
returns-clause-differs c = differs_where_refused

pub returns-clause-well : goal.returns-clause-well
returns-clause-well c = plays_well
