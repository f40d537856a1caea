use Rattle.std.proofs.Common.{refl, subst, sym}
use Rattle.swim_web.specs.Changes.{changes_text}
use Rattle.swim_web.specs.Replies.{IsReply, Serves}
use Rattle.swim_web.specs.declared.replies.Kind.TheVariants as kinds
use Rattle.swim_web.proofs.services.serve_page.Goals as goal
use Rattle.swim_trail.specs.Growing.{grows_none}

pub returns-in-Front : goal.returns-in-Front
returns-in-Front g c =
    subst (λ page. Serves (g.S.Shelf.tells c.args.shelf.now) (g.S.Shelf.opened c.args.shelf.now) page c.args.recent.now
    (record { asked = g.D.Daemon.asked c.args.daemon.now; is_late = c.args.is_late.now }) c.reply.new.response
    (record { asked = g.D.Daemon.asked c.args.daemon.now; is_late = c.args.is_late.now })) (sym c.in-Front.is) (
      (grows_none (g.D.Daemon.asked c.args.daemon.now), refl),
      subst (λ body. IsReply 200 kinds.Html body c.reply.new.response) c.as_bytes.ensures.value
          c.reply.ensures,
    )

pub returns-in-Changes : goal.returns-in-Changes
returns-in-Changes g c =
    subst (λ page. Serves (g.S.Shelf.tells c.args.shelf.now) (g.S.Shelf.opened c.args.shelf.now) page c.args.recent.now
    (record { asked = g.D.Daemon.asked c.args.daemon.now; is_late = c.args.is_late.now }) c.reply_changes.new.response
    (record { asked = g.D.Daemon.asked c.args.daemon.now; is_late = c.args.is_late.now })) (sym c.in-Changes.is) (
      (grows_none (g.D.Daemon.asked c.args.daemon.now), refl),
      subst (λ b. IsReply 200 kinds.Json (changes_text b c.args.recent.now.lines) c.reply_changes.new.response)
          c.is_open.ensures c.reply_changes.ensures,
    )
