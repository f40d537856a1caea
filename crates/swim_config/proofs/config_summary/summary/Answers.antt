use Rattle.swim_text.specs.Streams.{puts_less, puts_then}
use Rattle.swim_config.specs.Summary.{numbers_and_members_text, place_text}
use Rattle.swim_config.proofs.config_summary.summary.Goals as goal

pub returns-then-not-put_place-clause-bytes : goal.returns-then-not-put_place-clause-bytes
returns-then-not-put_place-clause-bytes g c =
    puts_less (g.W.Sink.written c.args.writer.now) (g.W.Sink.written c.put_place.new.writer)
    (place_text c.args.config.now) (numbers_and_members_text c.args.config.now)
    c.if-not-put_place.ensures.bytes

pub returns-clause-bytes : goal.returns-clause-bytes
returns-clause-bytes g c =
    puts_then (g.W.Sink.written c.args.writer.now) (g.W.Sink.written c.put_place.new.writer)
    (g.W.Sink.written c.put_numbers_and_members.new.writer) (place_text c.args.config.now)
    (numbers_and_members_text c.args.config.now)
    c.put_numbers_and_members.result c.if-not-put_place.ensures.bytes c.put_numbers_and_members.ensures.bytes
