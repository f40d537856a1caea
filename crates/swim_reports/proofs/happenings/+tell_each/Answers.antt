use Rattle.swim_reports.proofs.Noticed.{two_noticed}
use Rattle.swim_reports.proofs.happenings.+tell_each.Goals as goal

pub returns : goal.returns
returns g t c =
    two_noticed (g.F.Sink.written c.args.notices.now, g.F.Sink.failures c.args.notices.now)
    (g.F.Sink.written c.tell_notice.new.faults, g.F.Sink.failures c.tell_notice.new.faults)
    (g.F.Sink.written c.tell_each.new.notices, g.F.Sink.failures c.tell_each.new.notices)
    c.tell_notice.ensures c.tell_each.ensures
