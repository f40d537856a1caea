use Rattle.std.proofs.Common.{rules}
use Rattle.swim_history.specs.Sends.{sends_of}
use Rattle.swim_work.proofs.Called.{heard_so, message_so}
use Rattle.swim_work.proofs.Fullness.{finished_full}
use Rattle.swim_work.proofs.Sent.{finished_sent}
use Rattle.swim_work.proofs.calling.Caller.hear.Goals as goal

pub returns-clause-sent : goal.returns-clause-sent
returns-clause-sent g c =
    finished_sent g.O.Post.posted g.N.Naming.opening c.opening-opening.result.now c.args.self.now.seat
    c.hear-answer.new.seat c.hear-answer.result c.args.post.now c.finish-end.new.post c.args.self.now.counts
    c.finish-end.new.counts c.finish-end.result
    c.opening-opening.ensures (search rules) c.hear-answer.ensures.err c.finish-end.ensures

pub returns-clause-hears : goal.returns-clause-hears
returns-clause-hears g c =
    heard_so g.O.Post.posted (λ r. sends_of r.reply c.opening-opening.result.now) g.N.Naming.opening g.N.Naming.limit
    c.args.bytes.now c.args.source c.args.self.now.seat c.hear-answer.new.seat c.hear-answer.result c.args.post.now
    c.finish-end.new.post c.args.self.now.counts c.finish-end.new.counts c.finish-end.result
    c.hear-answer.ensures.ok c.hear-answer.ensures.err c.hear-answer.ensures.refuses c.finish-end.ensures

pub returns-clause-message : goal.returns-clause-message
returns-clause-message g c =
    rw c.message_of-message.ensures
    (message_so g.O.Post.posted (λ r. sends_of r.reply c.opening-opening.result.now) g.N.Naming.opening
    c.args.bytes.now c.args.source c.args.self.now.seat c.hear-answer.new.seat c.hear-answer.result c.args.post.now
    c.finish-end.new.post c.args.self.now.counts c.finish-end.new.counts c.finish-end.result
    c.hear-answer.ensures.ok c.hear-answer.ensures.err c.finish-end.ensures)

pub returns-clause-full : goal.returns-clause-full
returns-clause-full g c =
    finished_full g.O.Post.posted (λ r. sends_of r.reply c.opening-opening.result.now) c.args.self.now.seat
    c.hear-answer.new.seat c.hear-answer.result c.args.post.now c.finish-end.new.post c.args.self.now.counts
    c.finish-end.new.counts c.finish-end.result c.hear-answer.ensures.err c.finish-end.ensures
