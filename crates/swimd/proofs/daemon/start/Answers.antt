use Rattle.swim_reports.proofs.Noticed.{two_noticed}
use Rattle.swimd.proofs.Noticed.{four_noticed}
use Rattle.swimd.proofs.daemon.start.Goals as goal

pub returns-clause-notices : goal.returns-clause-notices
returns-clause-notices g c =
    four_noticed (g.F.Sink.written c.args.faults.now, g.F.Sink.failures c.args.faults.now)
    (g.F.Sink.written c.open_entrance.new.faults, g.F.Sink.failures c.open_entrance.new.faults)
    (g.F.Sink.written c.open_door.new.faults, g.F.Sink.failures c.open_door.new.faults)
    (g.F.Sink.written c.announce.new.faults, g.F.Sink.failures c.announce.new.faults)
    (g.F.Sink.written c.live.new.faults, g.F.Sink.failures c.live.new.faults)
    c.open_entrance.ensures.notices c.open_door.ensures.notices c.announce.ensures c.live.ensures.notices

pub returns-in-Err-open_door-clause-notices : goal.returns-in-Err-open_door-clause-notices
returns-in-Err-open_door-clause-notices g c =
    two_noticed (g.F.Sink.written c.args.faults.now, g.F.Sink.failures c.args.faults.now)
    (g.F.Sink.written c.open_entrance.new.faults, g.F.Sink.failures c.open_entrance.new.faults)
    (g.F.Sink.written c.open_door.new.faults, g.F.Sink.failures c.open_door.new.faults)
    c.open_entrance.ensures.notices c.open_door.ensures.notices
