use Rattle.swim_config.proofs.HiddenDigits.{front_hides}
use Rattle.swim_config.proofs.detail_lines.DetailLine.cut.Goals as goal

pub invariant_of-self : goal.invariant_of-self
invariant_of-self c =
    front_hides c.self.inside.text.items c.truncate.new.self.items c.saturating_sub-kept.result c.self.invariant
    c.truncate.ensures.items
