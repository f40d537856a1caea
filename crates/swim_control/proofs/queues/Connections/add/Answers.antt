use Rattle.std.proofs.Common.{◌≡◌, Bool, true, false, IsTrue}
use Rattle.std.specs.Bool.{MatchBool}
use Rattle.swim_control.proofs.Heard.{newcomer_heard}
use Rattle.swim_control.proofs.queues.Connections.add.Goals as goal

where_true : (P Q : Type 0) (r : Bool) → IsTrue r → MatchBool r P Q → P
where_true P Q true is holds = holds
where_true P Q false is holds = absurd (cc is)

pub returns-clause-heard : goal.returns-clause-heard
returns-clause-heard g c is =
    newcomer_heard c.args.self.now c.take_in.new.self (g.S.Source.left c.args.reader) (g.S.Source.given c.args.reader)
    (g.W.Sink.written c.args.writer) c.args.now
    (where_true _ (c.take_in.new.self ≡ c.args.self.now) c.take_in.result is c.take_in.ensures)
