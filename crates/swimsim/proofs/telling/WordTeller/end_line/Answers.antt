use Rattle.std.proofs.Common.{refl}
use Rattle.swim_history.specs.Texts.{feed}
use Rattle.swimsim.specs.Telling.{IsEnd, IsExact, MayName}
use Rattle.swimsim.proofs.Worded.{both_so, ends_named, first_failed_so}
use Rattle.swimsim.proofs.telling.WordTeller.end_line.Goals as goal

pub returns-then-not-put_name-clause-bytes : goal.returns-then-not-put_name-clause-bytes
returns-then-not-put_name-clause-bytes g c =
    let has = c.args.self.now.has_reasons in
    first_failed_so (MayName has c.args.reason) (IsEnd has c.args.reason) (g.W.Sink.written c.args.writer.now)
    (g.W.Sink.written c.put_name.new.writer) feed (λ a named. ends_named has c.args.reason a feed named refl)
    c.if-not-put_name.ensures.bytes

pub returns-clause-bytes : goal.returns-clause-bytes
returns-clause-bytes g c =
    let has = c.args.self.now.has_reasons in
    both_so (MayName has c.args.reason) (IsExact feed) (IsEnd has c.args.reason) (g.W.Sink.written c.args.writer.now)
    (g.W.Sink.written c.put_name.new.writer) (g.W.Sink.written c.put.new.self) c.put.result
    (ends_named has c.args.reason) c.if-not-put_name.ensures.bytes (feed, refl, c.put.ensures.bytes)
