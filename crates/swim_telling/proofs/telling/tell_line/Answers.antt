use Rattle.swim_telling.proofs.Noticed.{one_noticed}
use Rattle.swim_telling.proofs.telling.tell_line.Goals as goal

pub returns : goal.returns
returns g c =
    one_noticed (g.F.Sink.written c.args.faults.now, g.F.Sink.failures c.args.faults.now)
    (g.F.Sink.written c.put_line.new.faults, g.F.Sink.failures c.put_line.new.faults) c.args.line.now c.requires
    c.put_line.ensures
