use Rattle.swim_rejoin.proofs.Joining.{joined-address, joined-failed, joined-later, joined-row, joined-told}
use Rattle.swim_rejoin.proofs.laws.a_failed_member_is_joined.Goals as goal

pub returns-clause-row : goal.returns-clause-row
returns-clause-row c = joined-row

pub returns-clause-failed : goal.returns-clause-failed
returns-clause-failed c = joined-failed

pub returns-clause-address : goal.returns-clause-address
returns-clause-address c = joined-address

pub returns-clause-told : goal.returns-clause-told
returns-clause-told c = joined-told

pub returns-clause-later : goal.returns-clause-later
returns-clause-later c = joined-later
