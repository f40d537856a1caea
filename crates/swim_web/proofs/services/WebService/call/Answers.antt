use Rattle.std.proofs.Common.{ap, refl, subst, ◌∙◌, box_value}
use Rattle.http.specs.Request.{head_of}
use Rattle.swim_web.specs.Pages.{is_listed, page_asked}
use Rattle.swim_web.specs.Replies.{Serves}
use Rattle.swim_web.proofs.services.WebService.call.Goals as goal

pub returns-clause-ok : goal.returns-clause-ok
returns-clause-ok g c = (
  (
    (
      c.serve_page.new.response,
      subst (λ page. Serves (g.S.Shelf.tells c.serve_page.new.shelf)
          (g.S.Shelf.opened (box_value c.args.self.now.shelf)) page
          c.args.self.now.recent
          (record { asked = g.D.Daemon.asked (box_value c.args.self.now.daemon); is_late = c.args.self.now.is_late })
          c.serve_page.new.response
          (record { asked = g.D.Daemon.asked c.serve_page.new.daemon; is_late = c.serve_page.new.is_late }))
          (c.page_asked-page.ensures
          ∙ ap (λ names. page_asked (is_listed names) (head_of c.args.request.now)) c.as_slice.ensures.value)
          (subst (λ shelf. Serves (g.S.Shelf.tells c.serve_page.new.shelf) (g.S.Shelf.opened shelf)
          c.page_asked-page.result
          c.args.self.now.recent
          (record { asked = g.D.Daemon.asked (box_value c.args.self.now.daemon); is_late = c.args.self.now.is_late })
          c.serve_page.new.response
          (record { asked = g.D.Daemon.asked c.serve_page.new.daemon; is_late = c.serve_page.new.is_late }))
          c.deref_mut-2.ensures.value
          (subst (λ daemon. Serves (g.S.Shelf.tells c.serve_page.new.shelf)
          (g.S.Shelf.opened c.deref_mut-2.result.now) c.page_asked-page.result
          c.args.self.now.recent
          (record { asked = g.D.Daemon.asked daemon; is_late = c.args.self.now.is_late }) c.serve_page.new.response
          (record { asked = g.D.Daemon.asked c.serve_page.new.daemon; is_late = c.serve_page.new.is_late }))
          c.deref_mut.ensures.value c.serve_page.ensures)),
      c.close_if.ensures,
    ),
    refl,
  ),
  refl,
  refl,
)
