use Rattle.std.proofs.Common.{ℕ, List, true, false}
use Rattle.swimsim.specs.Telling.{IsAnswer, IsEntry, IsExact, IsNewest, number_line}
use Rattle.swimsim.proofs.Worded.{answer_plain, both_so, entry_ends, exactly, first_failed_so, newest_plain}
use Rattle.swimsim.proofs.telling.WordTeller.put_entry.Goals as goal

pub returns-then-not-put_number-clause-bytes : goal.returns-then-not-put_number-clause-bytes
returns-then-not-put_number-clause-bytes g c =
    let t = c.args.self.now in
    let call = c.args.call.now in
    let line = number_line t.has_numbers t.entries in
    let IsMade : List ℕ → Type 0 =
    IsAnswer t.has_datagrams call (IsNewest t.has_datagrams t.has_reasons c.args.session.now.recorded) in
    let plain = newest_plain t.has_datagrams t.has_reasons c.args.session.now.recorded in
    first_failed_so (IsExact line) (IsEntry line IsMade)
    (g.W.Sink.written c.args.writer.now) (g.W.Sink.written c.put_number.new.writer) plain.0
    (λ a is. entry_ends line IsMade a plain.0 is (answer_plain t.has_datagrams call
    (IsNewest t.has_datagrams t.has_reasons c.args.session.now.recorded) plain.0 plain.1))
    (exactly line (g.W.Sink.written c.args.writer.now) (g.W.Sink.written c.put_number.new.writer) false
    c.if-not-put_number.ensures.bytes)

pub returns-clause-bytes : goal.returns-clause-bytes
returns-clause-bytes g c =
    let t = c.args.self.now in
    let call = c.args.call.now in
    let line = number_line t.has_numbers t.entries in
    let IsMade : List ℕ → Type 0 =
    IsAnswer t.has_datagrams call (IsNewest t.has_datagrams t.has_reasons c.args.session.now.recorded) in
    both_so (IsExact line) IsMade (IsEntry line IsMade)
    (g.W.Sink.written c.args.writer.now) (g.W.Sink.written c.put_number.new.writer)
    (g.W.Sink.written c.put_made.new.writer) c.put_made.result
    (entry_ends line IsMade)
    (exactly line (g.W.Sink.written c.args.writer.now) (g.W.Sink.written c.put_number.new.writer) true
    c.if-not-put_number.ensures.bytes) c.put_made.ensures.bytes
