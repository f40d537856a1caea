use Rattle.swim_reports.proofs.Noticed.{two_noticed}
use Rattle.swimd.proofs.daemon.run_configured.Goals as goal

pub returns-clause-notices : goal.returns-clause-notices
returns-clause-notices g c =
    two_noticed (g.F.Sink.written c.args.faults.now, g.F.Sink.failures c.args.faults.now)
    (g.F.Sink.written c.start-outcome.new.faults, g.F.Sink.failures c.start-outcome.new.faults)
    (g.F.Sink.written c.tell_left_out.new.faults, g.F.Sink.failures c.tell_left_out.new.faults)
    c.start-outcome.ensures.notices c.tell_left_out.ensures
