use Rattle.swim_checks.proofs.Checked.{shown, told}
use Rattle.swim_checks.proofs.checking.check.Goals as goal

pub returns-in-Ok-clause-checked : goal.returns-in-Ok-clause-checked
returns-in-Ok-clause-checked g c =
    shown (g.S.Source.left c.args.reader.now) (g.W.Sink.written c.args.writer.now) (g.W.Sink.written c.show.new.writer)
    (g.F.Sink.written c.args.faults.now, g.F.Sink.failures c.args.faults.now)
    (g.F.Sink.written c.show.new.faults, g.F.Sink.failures c.show.new.faults)
    c.read_input.new.text.items c.in-Ok.config c.show.result
    c.if-not-read_input.ensures.bytes (rw c.as_slice.ensures.value at c.in-Ok.ensures.value) c.show.ensures.shows

pub returns-in-Err-clause-checked : goal.returns-in-Err-clause-checked
returns-in-Err-clause-checked g c =
    told (g.S.Source.left c.args.reader.now) (g.W.Sink.written c.args.writer.now)
    (g.F.Sink.written c.args.faults.now, g.F.Sink.failures c.args.faults.now) c.read_input.new.text.items c.in-Err.fault
    c.if-not-read_input.ensures.bytes (rw c.as_slice.ensures.value at c.in-Err.ensures.value)
    (rw c.as_slice.ensures.value at c.in-Err.ensures.size)

pub returns-then-not-read_input-clause-taken : goal.returns-then-not-read_input-clause-taken
returns-then-not-read_input-clause-taken g c =
    (c.read_input.new.text.items, c.if-not-read_input.ensures.taken, c.if-not-read_input.ensures.within)

pub returns-in-Ok-clause-taken : goal.returns-in-Ok-clause-taken
returns-in-Ok-clause-taken g c =
    (c.read_input.new.text.items, c.if-not-read_input.ensures.taken, c.if-not-read_input.ensures.within)

pub returns-in-Err-clause-taken : goal.returns-in-Err-clause-taken
returns-in-Err-clause-taken g c =
    (c.read_input.new.text.items, c.if-not-read_input.ensures.taken, c.if-not-read_input.ensures.within)
