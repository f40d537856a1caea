use Rattle.std.proofs.Common.{refl}
use Rattle.swim_telling.specs.Notices.{notices_both}
use Rattle.swim_keeper.proofs.keepers.LifeKeeperKeeperJournalRecorder.open.Goals as goal

pub returns : goal.returns
returns g c = (
  (refl, refl, refl, refl, refl),
  refl,
  record {
    setting = c.last.ensures.limits;
    lines = refl;
    notices = notices_both
        (g.F.Sink.written c.args.self.now.notices.now, g.F.Sink.failures c.args.self.now.notices.now)
        (g.F.Sink.written c.begins.new.notices, g.F.Sink.failures c.begins.new.notices)
        (g.F.Sink.written c.begun.new.notices, g.F.Sink.failures c.begun.new.notices) c.begins.ensures.notices
        c.begun.ensures.notices;
    begun = c.begins.ensures.begun;
    opened = c.begun.ensures.opened;
    filed = c.begun.ensures.filed;
    file = c.begun.ensures.begun;
    others = refl;
  },
)
