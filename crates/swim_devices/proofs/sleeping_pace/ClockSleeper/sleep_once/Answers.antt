use Rattle.std.proofs.Common.{◌+◌, [], ap, ◌∙◌}
use Rattle.swim_devices.proofs.Summing.{sum_more}
use Rattle.swim_devices.proofs.sleeping_pace.ClockSleeper.sleep_once.Goals as goal

pub returns : goal.returns
returns g c =
    sum_more c.self.inside.asked.items c.note.new.self.items c.args.milliseconds [] c.note.ensures
    ∙ ap (λ slept. slept + c.args.milliseconds) c.self.view_is
