use Rattle.std.proofs.Common.{ap, subst}
use Rattle.swim_history.specs.declared.calls.Call.TheVariants as calls
use Rattle.swim_desk.specs.Desk.{AtDesk, Calls}
use Rattle.swim_desk.proofs.Told.{is_called, is_refused}
use Rattle.swim_desk.proofs.node_desk.Asker.remove.Goals as goal

pub returns-in-Ok : goal.returns-in-Ok
returns-in-Ok g c =
    let o = g.N.Naming.opening in
    let call = (calls.Remove c.args.id) in
    let r = c.in-Ok.receipt in
    let limit = g.N.Naming.limit in
    let old : AtDesk = record
    { seat = c.self.inside.seat; seen = c.self.inside.viewer; refused = c.self.inside.refused } in
    let is = is_called o limit old c.done.new.self c.remove.new.seat call r.position r.number r.call r.reply r.news
    c.done.result c.in-Ok.ensures.ok (ap (λ (d : AtDesk). d.seat) c.done.ensures.same)
    (ap (λ (d : AtDesk). d.refused) c.done.ensures.same) c.done.ensures.told c.done.ensures.learnt in
    subst (λ d. Calls o limit d call c.done.result c.done.new.self) c.self.view_is is

pub refused-requires : goal.refused-requires
refused-requires g c = (c.self.inside.seat, c.in-Err.ensures.refuses)

pub returns-in-Err : goal.returns-in-Err
returns-in-Err g c =
    let o = g.N.Naming.opening in
    let call = (calls.Remove c.args.id) in
    let limit = g.N.Naming.limit in
    let old : AtDesk = record
    { seat = c.self.inside.seat; seen = c.self.inside.viewer; refused = c.self.inside.refused } in
    let is = is_refused o limit old c.refused.new.self c.remove.new.seat c.refused.new.self.refused call c.in-Err.fault
    c.refused.result c.in-Err.ensures.refuses c.in-Err.ensures.err c.refused.ensures.same c.refused.ensures.tells in
    subst (λ d. Calls o limit d call c.refused.result c.refused.new.self) c.self.view_is is
