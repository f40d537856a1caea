use Rattle.std.proofs.Common.{subst, sym}
use Rattle.swim_text.specs.Streams.{Puts}
use Rattle.swim_web.proofs.Listening.{changes_are}
use Rattle.swim_web.proofs.recent.Recent.put_object.Goals as goal

pub returns : goal.returns
returns g c =
    subst (λ text. Puts (g.W.Sink.written c.args.writer.now) (g.W.Sink.written c.put_changes.new.writer) text
    c.put_changes.result)
    (changes_are (λ l. l.items) c.args.self.now c.self.inside.told c.self.inside.lines.items c.as_slice.result.now
    c.args.is_explained (sym c.self.view_is) c.as_slice.ensures.value) c.put_changes.ensures
