use Rattle.swim_reports.proofs.Noticed.{two_noticed}
use Rattle.swim_reports.proofs.announcers.AnnouncerHerald.begins.Goals as goal

pub returns-then-not-self-clause-notices : goal.returns-then-not-self-clause-notices
returns-then-not-self-clause-notices g c =
    two_noticed (g.F.Sink.written c.args.notices.now, g.F.Sink.failures c.args.notices.now)
    (g.F.Sink.written c.tell_changes.new.notices, g.F.Sink.failures c.tell_changes.new.notices)
    (g.F.Sink.written c.tell_notice.new.faults, g.F.Sink.failures c.tell_notice.new.faults)
    c.tell_changes.ensures c.tell_notice.ensures
