use Rattle.std.proofs.Common.{◌++◌, codes, refl}
use Rattle.swim_text.specs.TwoPuts.{first_failed, both_put}
use Rattle.swim_verdicts.specs.ShellWords.{quoted_signs}
use Rattle.swim_verdicts.proofs.shell_words.put_in_quotes.Goals as goal

pub returns-then-not-put : goal.returns-then-not-put
returns-then-not-put g c =
    first_failed (g.W.Sink.written c.args.writer.now) (g.W.Sink.written c.put.new.self) (codes "'")
    (quoted_signs c.args.text.now) (codes "'" ++ quoted_signs c.args.text.now) refl c.if-not-put.ensures.bytes

pub returns : goal.returns
returns g c =
    both_put (g.W.Sink.written c.args.writer.now) (g.W.Sink.written c.put.new.self)
    (g.W.Sink.written c.put_signs.new.writer) (codes "'") (quoted_signs c.args.text.now)
    (codes "'" ++ quoted_signs c.args.text.now) c.put_signs.result refl c.if-not-put.ensures.bytes
    c.put_signs.ensures
