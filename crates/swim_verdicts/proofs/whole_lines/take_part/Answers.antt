use Rattle.std.proofs.Common.{◌≡◌, ◌++◌, sym, subst, arith}
use Rattle.std.proofs.lemmas.Grind.{common_steps}
use Rattle.swim_verdicts.specs.WholeLines.{EndsIfMet}
use Rattle.swim_verdicts.proofs.Feeds.{ends_joined}
use Rattle.swim_verdicts.proofs.whole_lines.take_part.Goals as goal

pub returns-clause-ends : goal.returns-clause-ends
returns-clause-ends g c =
    let part = c.last_ended-met.result.0.now in
    let held = c.args.lines.now.items in
    let joined : c.try_extend_from_slice-fits.new.self.items ≡ held ++ part = grind (arith, common_steps) in
    subst (EndsIfMet c.last_ended-met.result.1) (sym joined)
    (ends_joined c.last_ended-met.result.1 held part c.requires.unended c.last_ended-met.ensures.ends)
