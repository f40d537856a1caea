use Rattle.std.proofs.Common.{ap, subst, ◌∙◌}
use Rattle.swim_web.proofs.Looking.{asks_told}
use Rattle.swim_web.specs.Asking.{told_if}
use Rattle.swim_web.specs.Replies.{AreMembers}
use Rattle.swim_web.specs.declared.questions.Question.TheVariants as questions
use Rattle.swim_web.proofs.services.serve_members.Goals as goal

pub returns : goal.returns
returns g c =
    asks_told c.args.is_late.now questions.List
    (record { asked = g.D.Daemon.asked c.args.daemon.now; is_late = c.args.is_late.now })
    (record { asked = g.D.Daemon.asked c.ask_once-is_told.new.daemon; is_late = c.ask_once-is_told.new.is_late })
    c.ask_once-is_told.result c.ask_once-is_told.new.answer.items (λ told. AreMembers told c.reply_members.new.response)
    c.ask_once-is_told.ensures
    (subst (λ told. AreMembers told c.reply_members.new.response)
    (c.told.ensures ∙ ap (told_if c.ask_once-is_told.result) c.as_slice.ensures.value) c.reply_members.ensures)
