use Rattle.std.proofs.Common.{◌≡◌, ◌∷◌, ap, ap₂, refl, subst, sym, ◌∙◌}
use Rattle.swim_events.specs.Watching.{known, number_then, rows_then}
use Rattle.swim_metrics.specs.Following.{Follows, Measured}
use Rattle.swim_metrics.specs.Members.{members_of}
use Rattle.swim_metrics.specs.OddSenders.{senders_of}
use Rattle.swim_metrics.proofs.Carrying.{went_on}
use Rattle.swim_metrics.proofs.OddOnes.{odd_on}
use Rattle.swim_metrics.proofs.metrics.Metrics.read.Goals as goal

pub returns-clause-follows : goal.returns-clause-follows
returns-clause-follows c = λ life older e calls replies follows.
    let P : Measured → Type 0 = λ m. Follows m (life ∷ older) in
    let held = subst P (sym c.self.view_is) follows in record {
      counts = c.add.ensures life older e calls replies
          (c.wait_ended-wait.ensures life.past e calls replies held.period)
          (c.is_late-late.ensures ∙ rw (calls, replies, c.number.ensures, held.number) refl) held.counts;
      period = c.after-self-inside.ensures life.past e calls replies held.period;
      number = c.next-change.ensures.number ∙ ap₂ number_then (sym replies) held.number;
    }

pub returns-clause-members : goal.returns-clause-members
returns-clause-members c = λ life older e s run calls replies knows held.
    let P : Measured → Type 0 = λ m. m.known ≡ known life.opening life.past in
    let Q : Measured → Type 0 = λ m. m.members ≡ members_of (life ∷ older) in
    let is = subst P (sym c.self.view_is) knows in
    let goes = c.next-change.ensures.known life.opening life.past e s run calls replies is in
    went_on life older e c.args.call.now c.args.reply.now c.next-change.result c.rows-2.result.now
    c.self.inside.members.items c.count_for_members.new.members.items c.carry_over.new.members.items calls replies
    (subst Q (sym c.self.view_is) held) c.count_for_members.ensures c.carry_over.ensures
    (λ none. c.rows-2.ensures.value ∙ c.next-change.ensures.rows
    ∙ ap (λ change. rows_then change c.self.inside.watching.rows) none ∙ ap (λ k. k.rows) is)
    (c.rows-2.ensures.value ∙ ap (λ k. k.rows) goes)

pub returns-clause-odd : goal.returns-clause-odd
returns-clause-odd c = λ life older e calls knows me held.
    let P : Measured → Type 0 = λ m. m.known ≡ known life.opening life.past in
    let Q : Measured → Type 0 = λ m. m.me ≡ life.opening.me in
    let S : Measured → Type 0 = λ m. m.odd ≡ senders_of (life ∷ older) in
    odd_on life older e c.args.call.now c.self.inside.me c.rows.result.now c.self.inside.odd
    c.add-2.new.self calls
    (c.rows.ensures.value ∙ ap (λ k. k.rows) (subst P (sym c.self.view_is) knows))
    (subst Q (sym c.self.view_is) me) (subst S (sym c.self.view_is) held) c.add-2.ensures
