use Rattle.std.proofs.Common.{get_or, sym, ap}
use Rattle.swim_text.specs.TwoPuts.{first_failed, both_put, others_of}
use Rattle.swim_verdicts.specs.VerdictPages.{html_sign, html_text}
use Rattle.swim_verdicts.proofs.FirstSigns.{first_is}
use Rattle.swim_verdicts.proofs.html.+put_html.Goals as goal

pub returns-then-not-put_sign : goal.returns-then-not-put_sign
returns-then-not-put_sign g t c =
    first_failed (g.W.Sink.written c.args.writer.now) (g.W.Sink.written c.put_sign.new.writer)
    (html_sign (get_or c.args.text.now 0 0)) (html_text (others_of c.args.text.now)) (html_text c.args.text.now)
    (ap html_text (sym (first_is c.args.text.now c.in-len1-up.len_at_least))) c.if-not-put_sign.ensures

pub returns : goal.returns
returns g t c =
    both_put (g.W.Sink.written c.args.writer.now) (g.W.Sink.written c.put_sign.new.writer)
    (g.W.Sink.written c.put_html.new.writer) (html_sign (get_or c.args.text.now 0 0))
    (html_text (others_of c.args.text.now)) (html_text c.args.text.now) c.put_html.result
    (ap html_text (sym (first_is c.args.text.now c.in-len1-up.len_at_least))) c.if-not-put_sign.ensures
    c.put_html.ensures
