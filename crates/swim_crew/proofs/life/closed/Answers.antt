use Rattle.std.proofs.Common.{refl, sym, subst, ◌∙◌, List}
use Rattle.swim_node.specs.Following.{filings_of}
use Rattle.swim_node.specs.OneHistory.{AreFullWhereMet}
use Rattle.swim_node.specs.Seats.{Seated}
use Rattle.swim_crew.specs.declared.pasts.Ends.{Ends}
use Rattle.swim_crew.proofs.Fullness.{life_full}
use Rattle.swim_crew.proofs.Recorded.{recorded_all}
use Rattle.swim_crew.proofs.life.closed.Goals as goal

pub returns-clause-met : goal.returns-clause-met
returns-clause-met g c =
    let journal = c.close_followed-journal in
    subst (λ (s : List Seated). AreFullWhereMet g.N.Naming.limit journal.result.0.past s)
    (sym (c.seats_of.ensures ∙ journal.ensures.seats)) journal.ensures.full

pub returns-clause-full : goal.returns-clause-full
returns-clause-full g c =
    let over = c.args.over in
    let journal = c.close_followed-journal in
    let ends : Ends = record {
      first = over.first.end;
      second = over.second.end;
      third = over.third.end;
      all_began = over.all_began;
    } in
    life_full g.N.Naming.limit journal.result.0.past _ over.first.seat over.second.seat over.third.seat over.fourth ends
    c.why-why.result journal.ensures.full refl c.requires.first.1 c.requires.second.1 c.requires.third.1
    c.why-why.ensures

pub returns-clause-recorder : goal.returns-clause-recorder
returns-clause-recorder g c = λ old recorded.
    let journal = c.close_followed-journal in
    recorded_all g.D.Recorder.records g.N.Naming.opening journal.result.0.opening c.args.over.read.follower
    (filings_of journal.result.0.past) c.len-count.result old _ c.finish.new.self journal.ensures.followed
    c.len-count.ensures journal.ensures.opening c.finish.ensures (rw c.deref_mut.ensures.value recorded)
