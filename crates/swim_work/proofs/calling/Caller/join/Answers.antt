use Rattle.std.proofs.Common.{rules}
use Rattle.swim_history.specs.Sends.{sends_of}
use Rattle.swim_work.proofs.Called.{joined_so}
use Rattle.swim_work.proofs.Fullness.{finished_full}
use Rattle.swim_work.proofs.Sent.{finished_sent}
use Rattle.swim_work.proofs.calling.Caller.join.Goals as goal

pub returns-clause-sent : goal.returns-clause-sent
returns-clause-sent g c =
    finished_sent g.O.Post.posted g.N.Naming.opening c.opening-opening.result.now c.args.self.now.seat
    c.join-answer.new.seat c.join-answer.result c.args.post.now c.finish-end.new.post c.args.self.now.counts
    c.finish-end.new.counts c.finish-end.result
    c.opening-opening.ensures (search rules) c.join-answer.ensures.err c.finish-end.ensures

pub returns-clause-joins : goal.returns-clause-joins
returns-clause-joins g c =
    rw c.has_joined-is_joined.ensures
    (joined_so g.O.Post.posted (λ r. sends_of r.reply c.opening-opening.result.now) g.N.Naming.opening
    g.N.Naming.limit c.args.row.now c.args.self.now.seat c.join-answer.new.seat c.join-answer.result c.args.post.now
    c.finish-end.new.post c.args.self.now.counts c.finish-end.new.counts c.finish-end.result
    c.join-answer.ensures.ok c.join-answer.ensures.err c.join-answer.ensures.refuses c.finish-end.ensures)

pub returns-clause-full : goal.returns-clause-full
returns-clause-full g c =
    finished_full g.O.Post.posted (λ r. sends_of r.reply c.opening-opening.result.now) c.args.self.now.seat
    c.join-answer.new.seat c.join-answer.result c.args.post.now c.finish-end.new.post c.args.self.now.counts
    c.finish-end.new.counts c.finish-end.result c.join-answer.ensures.err c.finish-end.ensures
