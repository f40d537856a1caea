use Rattle.std.proofs.Common.{ap, sym, ◌∙◌}
use Rattle.std.specs.Option.{option_to_list}
use Rattle.swim_metrics.proofs.Buckets.{after_none, after_one}
use Rattle.swim_metrics.proofs.wait_histograms.Waits.add.Goals as goal

pub returns-in-Some : goal.returns-in-Some
returns-in-Some c = λ ended waits is held.
    after_one c.add_one.new.self c.in-Some.wait ended waits (ap option_to_list (sym c.in-Some.is) ∙ is)
    (λ e same. c.add_one.ensures e waits same held)

pub returns-in_default : goal.returns-in_default
returns-in_default c = λ ended waits is held.
    after_none c.args.self.now ended waits (ap option_to_list (sym c.in_default.is) ∙ is) held
