use Rattle.swim_reports.proofs.Noticed.{two_noticed}
use Rattle.swimd.proofs.commands.web.announce.Goals as goal

pub returns : goal.returns
returns g c =
    two_noticed (g.F.Sink.written c.args.faults.now, g.F.Sink.failures c.args.faults.now)
    (g.F.Sink.written c.warn_open.new.faults, g.F.Sink.failures c.warn_open.new.faults)
    (g.F.Sink.written c.warn_unreadable.new.faults, g.F.Sink.failures c.warn_unreadable.new.faults)
    (two_noticed (g.F.Sink.written c.args.faults.now, g.F.Sink.failures c.args.faults.now)
    (g.F.Sink.written c.tell_serving.new.faults, g.F.Sink.failures c.tell_serving.new.faults)
    (g.F.Sink.written c.warn_open.new.faults, g.F.Sink.failures c.warn_open.new.faults)
    c.tell_serving.ensures c.warn_open.ensures)
    c.warn_unreadable.ensures
