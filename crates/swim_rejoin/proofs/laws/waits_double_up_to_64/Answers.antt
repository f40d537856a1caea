use Rattle.swim_rejoin.proofs.Waiting.{times_bounded, times_doubled, times_set_back}
use Rattle.swim_rejoin.proofs.laws.waits_double_up_to_64.Goals as goal

pub returns-clause-least : goal.returns-clause-least
returns-clause-least c = λ id h. (times_bounded id h).0

pub returns-clause-most : goal.returns-clause-most
returns-clause-most c = λ id h. (times_bounded id h).1

pub returns-clause-doubled : goal.returns-clause-doubled
returns-clause-doubled c = times_doubled

pub returns-clause-set_back : goal.returns-clause-set_back
returns-clause-set_back c = times_set_back
