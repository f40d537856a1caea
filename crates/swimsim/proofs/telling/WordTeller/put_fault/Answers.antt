use Rattle.std.proofs.Common.{◌≡◌, ◌++◌, Some, codes, decimal, false, true, refl, rules, subst}
use Rattle.swim_history.specs.Texts.{feed}
use Rattle.swim_text.specs.Streams.{Puts}
use Rattle.swim_wire.specs.Layout.{fault_number}
use Rattle.swimsim.specs.declared.reasons.Reason.TheVariants.{Wire}
use Rattle.swimsim.specs.Telling.{IsEnd, IsExact, IsFault}
use Rattle.swimsim.proofs.Worded.{both_so, ends_plain, fault_ends, first_failed_so}
use Rattle.swimsim.proofs.telling.WordTeller.put_fault.Goals as goal

pub returns-then-not-put_numbered-clause-bytes : goal.returns-then-not-put_numbered-clause-bytes
returns-then-not-put_numbered-clause-bytes g c =
    let has = c.args.self.now.has_reasons in
    let n = fault_number c.args.fault in
    let reason = Wire c.args.fault in
    let W = g.W.Sink.written c.args.writer.now in
    let new = g.W.Sink.written c.put_numbered.new.writer in
    let is : c.from.result ≡ n = search rules in
    first_failed_so (IsExact (codes "wire " ++ decimal n)) (IsFault has n reason) W new feed
    (λ a text. fault_ends has n reason a feed text (ends_plain has (Some reason))) (
      codes "wire " ++ decimal n,
      refl,
      subst (λ m. Puts W new (codes "wire " ++ decimal m) false) is c.if-not-put_numbered.ensures.bytes,
    )

pub returns-clause-bytes : goal.returns-clause-bytes
returns-clause-bytes g c =
    let has = c.args.self.now.has_reasons in
    let n = fault_number c.args.fault in
    let reason = Wire c.args.fault in
    let W = g.W.Sink.written c.args.writer.now in
    let mid = g.W.Sink.written c.put_numbered.new.writer in
    let is : c.from.result ≡ n = search rules in
    both_so (IsExact (codes "wire " ++ decimal n)) (IsEnd has (Some reason)) (IsFault has n reason) W mid
    (g.W.Sink.written c.end_line.new.writer) c.end_line.result (fault_ends has n reason) (
      codes "wire " ++ decimal n,
      refl,
      subst (λ m. Puts W mid (codes "wire " ++ decimal m) true) is c.if-not-put_numbered.ensures.bytes,
    )
    c.end_line.ensures.bytes
