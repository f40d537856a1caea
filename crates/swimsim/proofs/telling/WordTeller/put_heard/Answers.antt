use Rattle.std.proofs.Common.{refl}
use Rattle.swimsim.specs.Telling.{MayHear}
use Rattle.swimsim.proofs.Worded.{nothing_put}
use Rattle.swimsim.proofs.telling.WordTeller.put_heard.Goals as goal

pub returns-in-Hear-clause-bytes : goal.returns-in-Hear-clause-bytes
returns-in-Hear-clause-bytes g c = rw c.in-Hear.is c.put_message.ensures.bytes

pub returns-in-Tick-clause-bytes : goal.returns-in-Tick-clause-bytes
returns-in-Tick-clause-bytes g c =
    nothing_put (MayHear c.args.self.now.has_datagrams c.args.call.now) (g.W.Sink.written c.args.writer.now)
    (rw c.in-Tick.is refl)

pub returns-in-Join-clause-bytes : goal.returns-in-Join-clause-bytes
returns-in-Join-clause-bytes g c =
    nothing_put (MayHear c.args.self.now.has_datagrams c.args.call.now) (g.W.Sink.written c.args.writer.now)
    (rw c.in-Join.is refl)

pub returns-in-Remove-clause-bytes : goal.returns-in-Remove-clause-bytes
returns-in-Remove-clause-bytes g c =
    nothing_put (MayHear c.args.self.now.has_datagrams c.args.call.now) (g.W.Sink.written c.args.writer.now)
    (rw c.in-Remove.is refl)
