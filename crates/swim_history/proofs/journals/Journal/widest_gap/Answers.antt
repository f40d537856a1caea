use Rattle.std.proofs.Common.{reverse, ◌∙◌}
use Rattle.swim_history.specs.Laws.Gap.{gap_bound, probed_in_time}
use Rattle.swim_history.specs.LastProbe.{last_probe, widest_gap}
use Rattle.swim_history.proofs.GapWalk.{walked, walked_widest, walked_none_left}
use Rattle.swim_history.proofs.journals.Journal.widest_gap.Goals as goal

pub returns-clause-exact : goal.returns-clause-exact
returns-clause-exact c =
    let kept = c.self.invariant.3.gaps_are c.args.member in
    rw (← c.self.view_is) (c.widest_gap.ensures ∙ kept.widest)

pub returns-clause-widest : goal.returns-clause-widest
returns-clause-widest c =
    let j = c.self.inside in
    let h = reverse j.entries.items in
    let kept = c.self.invariant.3.gaps_are c.args.member in
    let w = walked j.opening h c.args.member c.self.invariant.0 c.self.invariant.1 in
    rw (← c.self.view_is, c.widest_gap.ensures, kept.widest)
    (walked_widest j.opening h c.args.member (last_probe j.opening c.args.member h)
    (widest_gap j.opening c.args.member h) w)

pub returns-clause-none : goal.returns-clause-none
returns-clause-none c =
    let j = c.self.inside in
    let h = reverse j.entries.items in
    let kept = c.self.invariant.3.gaps_are c.args.member in
    let w = walked j.opening h c.args.member c.self.invariant.0 c.self.invariant.1 in
    rw (← c.self.view_is, c.widest_gap.ensures, kept.widest)
    (walked_none_left j.opening h c.args.member (last_probe j.opening c.args.member h)
    (widest_gap j.opening c.args.member h) w)

pub returns-clause-bound : goal.returns-clause-bound
returns-clause-bound c =
    let j = c.self.inside in
    rw (← c.self.view_is) (gap_bound j.opening (reverse j.entries.items) c.self.invariant.0 c.self.invariant.1)

pub returns-clause-round : goal.returns-clause-round
returns-clause-round c =
    let j = c.self.inside in
    rw (← c.self.view_is) (probed_in_time j.opening (reverse j.entries.items) c.self.invariant.0 c.self.invariant.1)
