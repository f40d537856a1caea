use Rattle.swim_ticker.specs.Knocking.{at_knocking}
use Rattle.swim_ticker.proofs.Knocked.{still_knocking}
use Rattle.swim_ticker.proofs.knocking.Knocking.pass.Goals as goal

pub returns-then-is_started : goal.returns-then-is_started
returns-then-is_started g c = rw c.if-is_started.true c.start.ensures

pub returns-else-is_started : goal.returns-else-is_started
returns-else-is_started g c =
    rw c.if-is_started.false (still_knocking g.N.Naming.opening (at_knocking c.args.self.now.knocker
    c.args.self.now.viewer c.args.self.now.table.items c.args.self.now.number c.args.lookup.now
    (g.O.Post.posted c.args.post.now) c.args.self.now.knocks))
