use Rattle.swim_history.specs.declared.calls.Call.TheVariants.{Tick}
use Rattle.swim_detector.specs.Mirrors.{plain}
use Rattle.swim_detector.proofs.Settling.{settled}
use Rattle.swim_detector.proofs.states.State.tick.Goals as goal

pub returns-then-self-rtt : goal.returns-then-self-rtt
returns-then-self-rtt g c = rw c.requires.none c.time_out.ensures

pub returns-else-self-rtt : goal.returns-else-self-rtt
returns-else-self-rtt g c =
    rw c.requires.none (settled g.C.Chooser.orders g.C.Chooser.places c.args.journal.now.opening c.args.journal.now.past
    Tick (plain c.quiet_tick.new.reply) c.quiet_tick.new.self c.args.chooser.now c.quiet_tick.ensures)
