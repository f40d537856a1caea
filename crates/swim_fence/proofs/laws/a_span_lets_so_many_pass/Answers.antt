use Rattle.swim_fence.proofs.Passing.{member_within, strangers_within}
use Rattle.swim_fence.proofs.laws.a_span_lets_so_many_pass.Goals as goal

pub returns-clause-member : goal.returns-clause-member
returns-clause-member c = member_within

pub returns-clause-strangers : goal.returns-clause-strangers
returns-clause-strangers c = strangers_within
