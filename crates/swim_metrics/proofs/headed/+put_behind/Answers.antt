use Rattle.std.proofs.Common.{◌≡◌, ℕ, ◌-◌, ◌<◌, List, ◌++◌, subst, sym, rules, arith}
use Rattle.swim_history.specs.Texts.{feed}
use Rattle.swim_text.specs.Streams.{Puts}
use Rattle.swim_text.specs.TwoPuts.{first_failed, both_put}
use Rattle.swim_metrics.specs.Families.{all}
use Rattle.swim_metrics.specs.Headed.{first_of, head_if, headed_in}
use Rattle.swim_metrics.proofs.HeadedLines.{line_and_others, no_line}
use Rattle.swim_metrics.proofs.headed.+put_behind.Goals as goal

pub returns-in_default-clause-bytes : goal.returns-in_default-clause-bytes
returns-in_default-clause-bytes g t c =
    subst (λ (text : List ℕ). Puts (g.W.Sink.written c.args.writer.now) (g.W.Sink.written c.put-in_default.new.self)
    text c.put-in_default.result) (no_line c.args.most c.args.before c.args.lines.now c.in_default.ensures)
    c.put-in_default.ensures.bytes

pub returns-then-not-put_one-clause-bytes : goal.returns-then-not-put_one-clause-bytes
returns-then-not-put_one-clause-bytes g t c =
    let some : 0 < c.args.most = search rules in
    let metric : c.first_of-metric.result ≡ first_of all c.in-Some.line.now = search rules in
    first_failed (g.W.Sink.written c.args.writer.now) (g.W.Sink.written c.put_one.new.writer)
    (head_if c.args.before c.first_of-metric.result ++ (c.in-Some.line.now ++ feed))
    (headed_in (c.args.most - 1) c.first_of-metric.result c.in-Some.others.now)
    (headed_in c.args.most c.args.before c.args.lines.now)
    (line_and_others c.args.most c.args.before c.first_of-metric.result c.args.lines.now c.in-Some.line.now
    c.in-Some.others.now some metric c.in-Some.ensures)
    c.if-not-put_one.ensures.bytes

pub returns-clause-bytes : goal.returns-clause-bytes
returns-clause-bytes g t c =
    let some : 0 < c.args.most = search rules in
    let metric : c.first_of-metric.result ≡ first_of all c.in-Some.line.now = search rules in
    both_put (g.W.Sink.written c.args.writer.now) (g.W.Sink.written c.put_one.new.writer)
    (g.W.Sink.written c.put_behind.new.writer)
    (head_if c.args.before c.first_of-metric.result ++ (c.in-Some.line.now ++ feed))
    (headed_in (c.args.most - 1) c.first_of-metric.result c.in-Some.others.now)
    (headed_in c.args.most c.args.before c.args.lines.now) c.put_behind.result
    (line_and_others c.args.most c.args.before c.first_of-metric.result c.args.lines.now c.in-Some.line.now
    c.in-Some.others.now some metric c.in-Some.ensures)
    c.if-not-put_one.ensures.bytes c.put_behind.ensures.bytes
