use Rattle.std.proofs.Common.{◌<◌, sym, ◌∙◌, arith, ap}
use Rattle.swim_wire.specs.Messages.{Message}
use Rattle.swim_rejoin.specs.Histories.{rejoin_in}
use Rattle.swim_rejoin.specs.Rejoiners.{Kept, is_marked}
use Rattle.swim_rejoin.proofs.Showing.{believed-some, believed-none, shown-is, unmarked}
use Rattle.swim_rejoin.proofs.rejoiners.Rejoiner.believes.Goals as goal
use Rattle.swim_rejoin.proofs.rejoiners.Rejoiner.believes.Goals.{then-self-eq0-via-then-self-eq0}
use Rattle.swim_rejoin.proofs.rejoiners.Rejoiner.believes.Goals.{then-self-eq0-via-else-self-eq0+then-not-has}

pub returns-then-self-eq0 : goal.returns-then-self-eq0
returns-then-self-eq0 c = λ h f.
    let k = c.args.self.now in
    let m = c.args.message.now in
    let from = c.args.from.now in
    elim c.then-self-eq0.branch [
      | then-self-eq0-via-then-self-eq0 w ↦
          sym (believed-none (rejoin_in h) k.me h m from
          (sym f.ruled ∙ ap (λ (k : Kept). k.rejoin) (sym c.self.view_is) ∙ w.if-self-eq0.true))
      | then-self-eq0-via-else-self-eq0+then-not-has w ↦
          let positive : 0 < rejoin_in h =
          omega (arith, w.if-self-eq0.false, ap (λ (k : Kept). k.rejoin) c.self.view_is ∙ f.ruled) in
          let mark = ap (λ (k : Kept). is_marked k.marks m.sender) (sym c.self.view_is)
          ∙ ap (is_marked c.self.inside.marks.marks) (sym (ap (λ (m : Message). m.sender) c.message.view_is))
          ∙ sym w.has.ensures ∙ w.if-not-has.true in
          sym (believed-some (rejoin_in h) k.me h m from positive ∙ unmarked k h m from f mark)
    ]

pub returns : goal.returns
returns c = λ h f.
    let k = c.args.self.now in
    let m = c.args.message.now in
    let from = c.args.from.now in
    let positive : 0 < rejoin_in h =
    omega (arith, c.if-self-eq0.false, ap (λ (k : Kept). k.rejoin) c.self.view_is ∙ f.ruled) in
    c.shown.ensures.value ∙ shown-is k h m from c.shown.ensures.number f ∙
    sym (believed-some (rejoin_in h) k.me h m from positive)
