use Rattle.std.proofs.Common.{refl, sym}
use Rattle.swim_crew.specs.Crews.{crew_at}
use Rattle.swim_crew.proofs.lives.live_next.Goals as goal

pub returns-in-Ok : goal.returns-in-Ok
returns-in-Ok g c = record {
  recorder = c.open.new.recorder;
  keeper = c.open.new.self;
  opened = rw (sym c.deref_mut.ensures.value) c.open.ensures;
  crew = crew_at c.live-past.result.1;
  life = rw c.in-Ok.is at c.live-past.ensures.life;
  drawn = rw (sym c.life-chooser.ensures) (rw c.in-Ok.is at c.live-past.ensures.drawn);
  closed = rw (sym c.deref_mut-in-Ok.ensures.value) c.close.ensures;
  others = refl;
}
