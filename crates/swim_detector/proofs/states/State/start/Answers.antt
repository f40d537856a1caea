use Rattle.std.proofs.Common.{refl, ap, ◌∙◌}
use Rattle.swim_targets.specs.Rounds.{drawn_of}
use Rattle.swim_detector.proofs.Starting.{next_of_round, started}
use Rattle.swim_detector.proofs.states.State.start.Goals as goal

pub probe_of-probe-requires : goal.probe_of-probe-requires
probe_of-probe-requires g c =
    next_of_round c.args.journal.now.opening c.args.journal.now.past c.args.self.now c.unheard-judged.result
    (drawn_of c.next-next.result.drawn) c.next-next.result.member c.leave.new.targets
    c.opening.ensures.limits c.opening.ensures.run c.requires.mirrors c.leave.ensures c.next-next.ensures.draws
    c.next-next.ensures.member

pub returns : goal.returns
returns g c =
    let period = c.period.ensures.value ∙ ap (λ x. x.period) c.opening.ensures.value in
    rw c.is_some.ensures (started g.C.Chooser.orders g.C.Chooser.places c.args.journal.now.opening
    c.args.journal.now.past c.args.self.now _ c.leave.new.targets c.unheard-judged.result c.next-next.result.member
    c.next-next.result.drawn c.probe_of-probe.result c.args.chooser.now c.next-next.new.chooser
    c.requires.mirrors
    (record {
      judges = c.unheard-judged.ensures;
      leaves = c.leave.ensures;
      targets = c.pass.ensures.same.0 ∙ c.next-next.ensures.lists;
      member = c.next-next.ensures.member;
      may = c.next-next.ensures.draws;
      order = c.next-next.ensures.drawn;
      none = c.next-next.ensures.kept;
      aims = refl;
      unheard = refl;
      requests = c.pass.ensures.requests;
      phase = rw period at c.pass.ensures.phase;
    })
    c.requires.begins c.requires.unspent (rw c.last_number.ensures.value at c.probe_of-probe.ensures))
