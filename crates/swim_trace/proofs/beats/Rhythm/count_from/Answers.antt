use Rattle.std.proofs.Common.{◌≡◌, List, ap, length, ◌∙◌}
use Rattle.std.specs.Prelude.{filter}
use Rattle.swim_trace.specs.declared.beats.Reach.{Reach}
use Rattle.swim_trace.specs.Beats.{beats, is_within}
use Rattle.swim_trace.proofs.Reaches.{count_is}
use Rattle.swim_trace.proofs.beats.Rhythm.count_from.Goals as goal

pub returns : goal.returns
returns c = λ me h follows.
    c.count_within.ensures
    ∙ (ap (λ (kept : List Reach). length (filter (is_within c.args.last c.args.latest) kept))
    (c.kept_of.ensures ∙ follows.beats c.args.initiator)
    ∙ count_is c.args.initiator c.args.last c.args.latest (beats me h) 0)
