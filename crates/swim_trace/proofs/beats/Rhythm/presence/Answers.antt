use Rattle.std.proofs.Common.{◌≡◌, ℕ, ap₂, ◌∙◌}
use Rattle.swim_trace.specs.declared.presences.Bracket.{Bracket}
use Rattle.swim_trace.specs.Beats.{beats}
use Rattle.swim_trace.specs.Presence.{presence_by}
use Rattle.swim_trace.proofs.beats.Rhythm.presence.Goals as goal

pub returns : goal.returns
returns c = λ me h follows.
    let round = c.pings_round-bracket.ensures (beats me h)
    (c.kept_of.ensures ∙ follows.beats c.args.probe.now.initiator) in
    let o = c.args.opening.now in
    c.presence_by.ensures ∙ ap₂ (λ (b : Bracket) (t : ℕ). presence_by o.period o.rtt c.args.probe.now b t) round
    (c.ticks.ensures ∙ follows.ticks)
