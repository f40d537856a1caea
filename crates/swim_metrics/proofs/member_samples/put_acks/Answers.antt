use Rattle.std.proofs.Common.{[], ◌∷◌, codes}
use Rattle.swim_text.specs.TwoPuts.{first_failed, both_put}
use Rattle.swim_metrics.specs.Families.{member_acks, member_sample}
use Rattle.swim_metrics.specs.Texts.{samples_text}
use Rattle.swim_metrics.proofs.Lines.{ack_lines}
use Rattle.swim_metrics.proofs.member_samples.put_acks.Goals as goal

pub returns-then-not-put_figure-clause-bytes : goal.returns-then-not-put_figure-clause-bytes
returns-then-not-put_figure-clause-bytes g c =
    first_failed (g.W.Sink.written c.args.writer.now) (g.W.Sink.written c.put_figure.new.writer)
    (samples_text c.args.series.now.me c.args.series.now.name.now
    (member_sample c.args.id (codes ",from=\"target\"") c.args.directly ∷ []))
    (samples_text c.args.series.now.me c.args.series.now.name.now
    (member_sample c.args.id (codes ",from=\"relay\"") c.args.by_relay ∷ []))
    (samples_text c.args.series.now.me c.args.series.now.name.now
    (member_acks c.args.id c.args.directly c.args.by_relay))
    (ack_lines c.args.series.now.me c.args.id c.args.directly c.args.by_relay c.args.series.now.name.now)
    c.if-not-put_figure.ensures.bytes

pub returns-clause-bytes : goal.returns-clause-bytes
returns-clause-bytes g c =
    both_put (g.W.Sink.written c.args.writer.now) (g.W.Sink.written c.put_figure.new.writer)
    (g.W.Sink.written c.put_figure-2.new.writer)
    (samples_text c.args.series.now.me c.args.series.now.name.now
    (member_sample c.args.id (codes ",from=\"target\"") c.args.directly ∷ []))
    (samples_text c.args.series.now.me c.args.series.now.name.now
    (member_sample c.args.id (codes ",from=\"relay\"") c.args.by_relay ∷ []))
    (samples_text c.args.series.now.me c.args.series.now.name.now
    (member_acks c.args.id c.args.directly c.args.by_relay))
    c.put_figure-2.result
    (ack_lines c.args.series.now.me c.args.id c.args.directly c.args.by_relay c.args.series.now.name.now)
    c.if-not-put_figure.ensures.bytes c.put_figure-2.ensures.bytes
