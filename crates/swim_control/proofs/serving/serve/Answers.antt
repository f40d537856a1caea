use Rattle.std.proofs.Common.{ℕ, List, Some, None, refl, subst, ◌∙◌}
use Rattle.swim_control.specs.Commands.{said_by, line_said}
use Rattle.swim_control.specs.Turns.{Turned}
use Rattle.swim_control.proofs.Known.{start_known, next_known, turn_known, long_known, unended_known, over_known}
use Rattle.swim_control.proofs.Known.{spent_known, failed_known, unsent_known}
use Rattle.swim_control.proofs.serving.serve.Goals as goal

pub loop-line-init : goal.loop-line-init
loop-line-init g c =
    record {
      course = start_known g.D.Desk.asks (g.S.Source.left c.args.reader.now) c.args.desk.now
          (g.W.Sink.written c.args.writer.now);
      read = refl;
      written = refl;
    }

pub returns-in-Long-clause-served : goal.returns-in-Long-clause-served
returns-in-Long-clause-served g c =
    long_known g.D.Desk.asks (g.S.Source.left c.args.reader.now) (g.S.Source.left c.loop-line.reader)
    (g.S.Source.left c.next_short_line.new.reader) c.next_short_line.new.line.items c.args.desk.now c.loop-line.desk
    (g.W.Sink.written c.args.writer.now) (g.W.Sink.written c.loop-line.writer)
    (g.W.Sink.written c.next_short_line.new.writer) (g.W.Sink.written c.end_with_fault.new.writer) c.loop-line.reads
    c.next_short_line.new.reads c.end_with_fault.result
    c.loop-line.invariant.course c.in-Long.ensures.comes c.in-Long.ensures.kept c.end_with_fault.ensures.told

pub returns-in-Unended-clause-served : goal.returns-in-Unended-clause-served
returns-in-Unended-clause-served g c =
    unended_known g.D.Desk.asks (g.S.Source.left c.args.reader.now) (g.S.Source.left c.loop-line.reader)
    (g.S.Source.left c.next_short_line.new.reader) c.next_short_line.new.line.items c.args.desk.now c.loop-line.desk
    (g.W.Sink.written c.args.writer.now) (g.W.Sink.written c.loop-line.writer)
    (g.W.Sink.written c.next_short_line.new.writer) (g.W.Sink.written c.end_with_fault-in-Unended.new.writer)
    c.loop-line.reads c.next_short_line.new.reads c.end_with_fault-in-Unended.result
    c.loop-line.invariant.course c.in-Unended.ensures.comes c.in-Unended.ensures.kept
    c.end_with_fault-in-Unended.ensures.told

pub returns-in-Over-clause-served : goal.returns-in-Over-clause-served
returns-in-Over-clause-served g c =
    over_known g.D.Desk.asks (g.S.Source.left c.args.reader.now) (g.S.Source.left c.loop-line.reader)
    (g.S.Source.left c.next_short_line.new.reader) c.next_short_line.new.line.items c.args.desk.now c.loop-line.desk
    (g.W.Sink.written c.args.writer.now) (g.W.Sink.written c.loop-line.writer)
    (g.W.Sink.written c.next_short_line.new.writer) (g.W.Sink.written c.send-in-Over.new.writer) c.loop-line.reads
    c.next_short_line.new.reads c.send-in-Over.result
    c.loop-line.invariant.course c.in-Over.ensures.comes c.in-Over.ensures.kept c.send-in-Over.ensures.kept
    c.send-in-Over.ensures.ends

pub returns-in-Spent-clause-served : goal.returns-in-Spent-clause-served
returns-in-Spent-clause-served g c =
    spent_known g.D.Desk.asks (g.S.Source.left c.args.reader.now) (g.S.Source.left c.loop-line.reader)
    (g.S.Source.left c.next_short_line.new.reader) c.next_short_line.new.line.items c.args.desk.now c.loop-line.desk
    (g.W.Sink.written c.args.writer.now) (g.W.Sink.written c.loop-line.writer)
    (g.W.Sink.written c.next_short_line.new.writer) (g.W.Sink.written c.send-in-Spent.new.writer) c.loop-line.reads
    c.next_short_line.new.reads c.send-in-Spent.result
    c.loop-line.invariant.course c.in-Spent.ensures.comes c.in-Spent.ensures.kept c.send-in-Spent.ensures.kept
    c.send-in-Spent.ensures.ends

pub returns-in-Failed-clause-served : goal.returns-in-Failed-clause-served
returns-in-Failed-clause-served g c =
    failed_known g.D.Desk.asks (g.S.Source.left c.args.reader.now) (g.S.Source.left c.loop-line.reader)
    (g.S.Source.left c.next_short_line.new.reader) c.next_short_line.new.line.items c.args.desk.now c.loop-line.desk
    (g.W.Sink.written c.args.writer.now) (g.W.Sink.written c.loop-line.writer)
    (g.W.Sink.written c.next_short_line.new.writer) c.loop-line.reads c.next_short_line.new.reads
    c.loop-line.invariant.course c.in-Failed.ensures.comes c.in-Failed.ensures.kept

pub returns-in-Unsent-clause-served : goal.returns-in-Unsent-clause-served
returns-in-Unsent-clause-served g c =
    unsent_known g.D.Desk.asks (g.S.Source.left c.args.reader.now) (g.S.Source.left c.loop-line.reader)
    (g.S.Source.left c.next_short_line.new.reader) c.next_short_line.new.line.items c.args.desk.now c.loop-line.desk
    (g.W.Sink.written c.args.writer.now) (g.W.Sink.written c.loop-line.writer)
    (g.W.Sink.written c.next_short_line.new.writer) c.loop-line.reads c.next_short_line.new.reads
    c.loop-line.invariant.course c.in-Unsent.ensures.comes c.in-Unsent.ensures.kept

pub returns-in-Some-clause-served : goal.returns-in-Some-clause-served
returns-in-Some-clause-served g c =
    turn_known g.D.Desk.asks (g.S.Source.left c.args.reader.now) (g.S.Source.left c.loop-line.reader)
    (g.S.Source.left c.next_short_line.new.reader) c.next_short_line.new.line.items c.args.desk.now c.loop-line.desk
    c.turn.new.desk (g.W.Sink.written c.args.writer.now) (g.W.Sink.written c.loop-line.writer)
    (g.W.Sink.written c.next_short_line.new.writer) (g.W.Sink.written c.turn.new.writer)
    (g.W.Sink.written c.send.new.writer) c.loop-line.reads c.next_short_line.new.reads c.in-Some.end c.send.result
    c.loop-line.invariant.course c.in-Feed.ensures.comes c.in-Feed.ensures.kept
    (subst (λ (l : List ℕ). Turned g.D.Desk.asks (said_by (line_said l)) c.loop-line.desk c.turn.new.desk
    (g.W.Sink.written c.next_short_line.new.writer) (g.W.Sink.written c.turn.new.writer) (Some c.in-Some.end))
    c.as_slice.ensures.value c.in-Some.ensures.turned) c.send.ensures.ends c.send.ensures.kept

pub loop-line-preserved : goal.loop-line-preserved
loop-line-preserved g c = record {
  course = next_known g.D.Desk.asks (g.S.Source.left c.args.reader.now) (g.S.Source.left c.loop-line.reader)
      (g.S.Source.left c.next_short_line.new.reader) c.next_short_line.new.line.items c.args.desk.now c.loop-line.desk
      c.turn.new.desk (g.W.Sink.written c.args.writer.now) (g.W.Sink.written c.loop-line.writer)
      (g.W.Sink.written c.next_short_line.new.writer) (g.W.Sink.written c.turn.new.writer) c.loop-line.reads
      c.next_short_line.new.reads
      c.loop-line.invariant.course c.in-Feed.ensures.comes c.in-Feed.ensures.kept
      (subst (λ (l : List ℕ). Turned g.D.Desk.asks (said_by (line_said l)) c.loop-line.desk c.turn.new.desk
      (g.W.Sink.written c.next_short_line.new.writer) (g.W.Sink.written c.turn.new.writer) None)
      c.as_slice.ensures.value c.in_default.ensures.turned);
  read = c.in-Feed.ensures.reads ∙ c.loop-line.invariant.read;
  written = c.in_default.ensures.failures ∙ (c.in-Feed.ensures.writes ∙ c.loop-line.invariant.written);
}
