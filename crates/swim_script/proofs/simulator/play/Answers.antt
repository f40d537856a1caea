use Rattle.std.proofs.Common.{ℕ, ◌+◌, ◌-◌, List, Err, refl, sym, ap, subst, ◌∙◌, arith}
use Rattle.swim_text.specs.Lines.{TakesKnown}
use Rattle.swim_text.specs.declared.lines.Taken.TheVariants.{Line, Long, Size, Over, Failed, Unsent}
use Rattle.swim_script.specs.declared.faults.ScriptFault.{ScriptFault}
use Rattle.swim_script.specs.declared.forms.Form.TheVariants.{Script}
use Rattle.swim_script.specs.Script.{RunsKnown}
use Rattle.swim_script.specs.Ends.{unplayed}
use Rattle.swim_script.specs.Forms.{form_after}
use Rattle.swim_script.specs.Holds.{Played, CourseKnown}
use Rattle.swim_script.proofs.Known.{start_known, next_known, stop_known, long_known, oversize_known, unread_known}
use Rattle.swim_script.proofs.Known.{unsent_known, ending_known, passed_on, left_known, left_at_fault}
use Rattle.swim_script.proofs.BytesRead.{reads_known, whole_if_ok}
use Rattle.swim_script.proofs.simulator.play.Goals as goal

pub loop-session-init : goal.loop-session-init
loop-session-init g c =
    let L = g.R.Source.left c.args.reader.now in
    let W = g.W.Sink.written c.args.writer.now in
    record {
      course = subst (CourseKnown L L W W Script c.bytes-budget.result) (sym c.requires)
          (subst (λ n. CourseKnown L L W W Script n unplayed) (sym c.bytes-budget.ensures) (start_known L W));
      reads = refl;
      writes = refl;
      lines = omega (arith, ap (λ (s : Played). s.lines) c.requires, c.bytes-budget.ensures);
      most = omega arith;
    }

pub loop-session-preserved : goal.loop-session-preserved
loop-session-preserved g c =
    let left = g.R.Source.left c.next_line.new.reader in
    let rest = g.R.Source.left c.loop-session.reader in
    let i = c.loop-session.invariant in
    let takes = subst (λ (l : List ℕ). TakesKnown rest left Line l 2048 c.loop-session.budget c.next_line.new.budget)
    (sym c.as_slice-in-Line.ensures.value) c.in-Line.ensures.takes in
    let told = c.form_with-told.ensures.form ∙
    ap (λ (l : List ℕ). form_after c.loop-session.session.lines l c.loop-session.form)
    (c.as_slice.ensures.value ∙ sym c.as_slice-in-Line.ensures.value) in
    record {
      course = next_known (g.R.Source.left c.args.reader.now) rest left (g.W.Sink.written c.args.writer.now)
          (g.W.Sink.written c.loop-session.writer) (g.W.Sink.written c.next_line.new.writer)
          (g.W.Sink.written c.turn.new.writer)
          c.as_slice-in-Line.result.now c.loop-session.form c.form_with-told.result c.loop-session.budget
          c.next_line.new.budget (c.next_line.new.budget + (c.bytes.result - c.bytes-in-Line.result))
          c.loop-session.session c.turn.new.self c.in_ok-turn-in-Line.field-0
          i.course takes c.in-Line.ensures.kept told
          (omega (arith, c.form_with-told.ensures.grows, c.bytes.ensures, c.bytes-in-Line.ensures))
          c.in_ok-turn-in-Line.ensures.turned;
      reads = c.in-Line.ensures.reads ∙ i.reads;
      writes = c.in_ok-turn-in-Line.ensures.failures ∙ (c.in-Line.ensures.writes ∙ i.writes);
      lines = omega (
        arith,
        c.in_ok-turn-in-Line.ensures.count,
        c.in-Line.ensures.spends refl,
        i.lines,
        c.form_with-told.ensures.grows,
        c.bytes.ensures,
        c.bytes-in-Line.ensures,
      );
      most = c.form_with-told.ensures.most;
    }

pub returns-in_err-turn-in-Line-clause-told : goal.returns-in_err-turn-in-Line-clause-told
returns-in_err-turn-in-Line-clause-told g c =
    let left = g.R.Source.left c.next_line.new.reader in
    let rest = g.R.Source.left c.loop-session.reader in
    let takes = subst (λ (l : List ℕ). TakesKnown rest left Line l 2048 c.loop-session.budget c.next_line.new.budget)
    (sym c.as_slice-in-Line.ensures.value) c.in-Line.ensures.takes in
    let told = c.form_with-told.ensures.form ∙
    ap (λ (l : List ℕ). form_after c.loop-session.session.lines l c.loop-session.form)
    (c.as_slice.ensures.value ∙ sym c.as_slice-in-Line.ensures.value) in
    let stops = stop_known (g.R.Source.left c.args.reader.now) rest left (g.W.Sink.written c.args.writer.now)
    (g.W.Sink.written c.loop-session.writer) (g.W.Sink.written c.next_line.new.writer)
    (g.W.Sink.written c.turn.new.writer)
    c.as_slice-in-Line.result.now c.loop-session.form c.form_with-told.result c.loop-session.budget
    c.next_line.new.budget c.loop-session.session c.turn.new.self c.in_err-turn-in-Line.field-0.0
    c.loop-session.invariant.course takes c.in-Line.ensures.kept told c.in_err-turn-in-Line.ensures.turned in
    passed_on (g.R.Source.left c.args.reader.now) left (g.W.Sink.written c.args.writer.now)
    (g.W.Sink.written c.turn.new.writer) c.in_err-turn-in-Line.field-0.0 c.from_residual.result
    c.from_residual.ensures.1 stops

pub returns-in-Over-clause-told : goal.returns-in-Over-clause-told
returns-in-Over-clause-told g c =
    ending_known (g.R.Source.left c.args.reader.now) (g.R.Source.left c.loop-session.reader)
    (g.R.Source.left c.next_line.new.reader) (g.W.Sink.written c.args.writer.now)
    (g.W.Sink.written c.loop-session.writer) (g.W.Sink.written c.next_line.new.writer)
    c.next_line.new.line.items c.loop-session.form c.loop-session.budget c.next_line.new.budget c.loop-session.session
    c.end.result c.loop-session.invariant.course c.in-Over.ensures.takes c.in-Over.ensures.kept c.end.ensures

pub returns-in-Long-clause-told : goal.returns-in-Long-clause-told
returns-in-Long-clause-told g c =
    subst (λ (f : ScriptFault). RunsKnown (g.R.Source.left c.args.reader.now) (g.R.Source.left c.next_line.new.reader)
    (g.W.Sink.written c.args.writer.now) (g.W.Sink.written c.next_line.new.writer) (Err f)) (sym c.fault.ensures)
    (long_known (g.R.Source.left c.args.reader.now) (g.R.Source.left c.loop-session.reader)
    (g.R.Source.left c.next_line.new.reader) (g.W.Sink.written c.args.writer.now)
    (g.W.Sink.written c.loop-session.writer) (g.W.Sink.written c.next_line.new.writer)
    c.next_line.new.line.items c.loop-session.form c.loop-session.budget c.next_line.new.budget c.loop-session.session
    c.loop-session.invariant.course c.in-Long.ensures.takes c.in-Long.ensures.kept)

pub returns-in-Size-clause-told : goal.returns-in-Size-clause-told
returns-in-Size-clause-told g c =
    subst (λ (f : ScriptFault). RunsKnown (g.R.Source.left c.args.reader.now) (g.R.Source.left c.next_line.new.reader)
    (g.W.Sink.written c.args.writer.now) (g.W.Sink.written c.next_line.new.writer) (Err f))
    (sym c.fault-in-Size.ensures)
    (oversize_known (g.R.Source.left c.args.reader.now) (g.R.Source.left c.loop-session.reader)
    (g.R.Source.left c.next_line.new.reader) (g.W.Sink.written c.args.writer.now)
    (g.W.Sink.written c.loop-session.writer) (g.W.Sink.written c.next_line.new.writer)
    c.next_line.new.line.items c.loop-session.form c.loop-session.budget c.next_line.new.budget c.loop-session.session
    c.loop-session.invariant.course c.in-Size.ensures.takes c.in-Size.ensures.kept)

pub returns-in-Failed-clause-told : goal.returns-in-Failed-clause-told
returns-in-Failed-clause-told g c =
    subst (λ (f : ScriptFault). RunsKnown (g.R.Source.left c.args.reader.now) (g.R.Source.left c.next_line.new.reader)
    (g.W.Sink.written c.args.writer.now) (g.W.Sink.written c.next_line.new.writer) (Err f))
    (sym c.fault-in-Failed.ensures)
    (unread_known (g.R.Source.left c.args.reader.now) (g.R.Source.left c.loop-session.reader)
    (g.R.Source.left c.next_line.new.reader) (g.W.Sink.written c.args.writer.now)
    (g.W.Sink.written c.loop-session.writer) (g.W.Sink.written c.next_line.new.writer)
    c.next_line.new.line.items c.loop-session.form c.loop-session.budget c.next_line.new.budget c.loop-session.session
    c.loop-session.invariant.course c.in-Failed.ensures.takes c.in-Failed.ensures.kept)

pub returns-in-Unsent-clause-told : goal.returns-in-Unsent-clause-told
returns-in-Unsent-clause-told g c =
    subst (λ (f : ScriptFault). RunsKnown (g.R.Source.left c.args.reader.now) (g.R.Source.left c.next_line.new.reader)
    (g.W.Sink.written c.args.writer.now) (g.W.Sink.written c.next_line.new.writer) (Err f))
    (sym c.fault-in-Unsent.ensures)
    (unsent_known (g.R.Source.left c.args.reader.now) (g.R.Source.left c.loop-session.reader)
    (g.R.Source.left c.next_line.new.reader) (g.W.Sink.written c.args.writer.now)
    (g.W.Sink.written c.loop-session.writer) (g.W.Sink.written c.next_line.new.writer)
    c.next_line.new.line.items c.loop-session.form c.loop-session.budget c.next_line.new.budget c.loop-session.session
    c.loop-session.invariant.course c.in-Unsent.ensures.takes c.in-Unsent.ensures.kept)

pub returns-in_err-turn-in-Line-clause-leaves : goal.returns-in_err-turn-in-Line-clause-leaves
returns-in_err-turn-in-Line-clause-leaves g c =
    left_at_fault (g.R.Source.left c.args.reader.now) (g.W.Sink.written c.args.writer.now)
    (g.W.Sink.written c.turn.new.writer) c.turn.new.self
    c.in_err-turn-in-Line.field-0.0 c.from_residual.result c.from_residual.ensures.1

pub returns-in-Over-clause-leaves : goal.returns-in-Over-clause-leaves
returns-in-Over-clause-leaves g c =
    left_known (g.R.Source.left c.args.reader.now) (g.R.Source.left c.loop-session.reader)
    (g.R.Source.left c.next_line.new.reader) (g.W.Sink.written c.args.writer.now)
    (g.W.Sink.written c.loop-session.writer) (g.W.Sink.written c.next_line.new.writer)
    c.next_line.new.line.items c.loop-session.form c.loop-session.budget c.next_line.new.budget c.loop-session.session
    c.end.result c.loop-session.invariant.course c.in-Over.ensures.takes c.in-Over.ensures.kept

pub returns-in_err-turn-in-Line-clause-within : goal.returns-in_err-turn-in-Line-clause-within
returns-in_err-turn-in-Line-clause-within g c =
    reads_known Line (g.R.Source.left c.args.reader.now) (g.R.Source.left c.loop-session.reader)
    (g.R.Source.left c.next_line.new.reader) (g.W.Sink.written c.args.writer.now)
    (g.W.Sink.written c.loop-session.writer) c.next_line.new.line.items c.loop-session.form 2048
    c.loop-session.budget c.next_line.new.budget c.loop-session.session c.loop-session.invariant.course
    c.in-Line.ensures.takes

pub returns-in-Over-clause-within : goal.returns-in-Over-clause-within
returns-in-Over-clause-within g c =
    reads_known Over (g.R.Source.left c.args.reader.now) (g.R.Source.left c.loop-session.reader)
    (g.R.Source.left c.next_line.new.reader) (g.W.Sink.written c.args.writer.now)
    (g.W.Sink.written c.loop-session.writer) c.next_line.new.line.items c.loop-session.form 2048
    c.loop-session.budget c.next_line.new.budget c.loop-session.session c.loop-session.invariant.course
    c.in-Over.ensures.takes

pub returns-in-Over-clause-whole : goal.returns-in-Over-clause-whole
returns-in-Over-clause-whole g c =
    whole_if_ok c.end.result (g.R.Source.left c.args.reader.now) (g.R.Source.left c.loop-session.reader)
    (g.R.Source.left c.next_line.new.reader) (g.W.Sink.written c.args.writer.now)
    (g.W.Sink.written c.loop-session.writer) c.next_line.new.line.items c.loop-session.form 2048
    c.loop-session.budget c.next_line.new.budget c.loop-session.session c.loop-session.invariant.course
    c.in-Over.ensures.takes

pub returns-in-Long-clause-within : goal.returns-in-Long-clause-within
returns-in-Long-clause-within g c =
    reads_known Long (g.R.Source.left c.args.reader.now) (g.R.Source.left c.loop-session.reader)
    (g.R.Source.left c.next_line.new.reader) (g.W.Sink.written c.args.writer.now)
    (g.W.Sink.written c.loop-session.writer) c.next_line.new.line.items c.loop-session.form 2048
    c.loop-session.budget c.next_line.new.budget c.loop-session.session c.loop-session.invariant.course
    c.in-Long.ensures.takes

pub returns-in-Size-clause-within : goal.returns-in-Size-clause-within
returns-in-Size-clause-within g c =
    reads_known Size (g.R.Source.left c.args.reader.now) (g.R.Source.left c.loop-session.reader)
    (g.R.Source.left c.next_line.new.reader) (g.W.Sink.written c.args.writer.now)
    (g.W.Sink.written c.loop-session.writer) c.next_line.new.line.items c.loop-session.form 2048
    c.loop-session.budget c.next_line.new.budget c.loop-session.session c.loop-session.invariant.course
    c.in-Size.ensures.takes

pub returns-in-Failed-clause-within : goal.returns-in-Failed-clause-within
returns-in-Failed-clause-within g c =
    reads_known Failed (g.R.Source.left c.args.reader.now) (g.R.Source.left c.loop-session.reader)
    (g.R.Source.left c.next_line.new.reader) (g.W.Sink.written c.args.writer.now)
    (g.W.Sink.written c.loop-session.writer) c.next_line.new.line.items c.loop-session.form 2048
    c.loop-session.budget c.next_line.new.budget c.loop-session.session c.loop-session.invariant.course
    c.in-Failed.ensures.takes

pub returns-in-Unsent-clause-within : goal.returns-in-Unsent-clause-within
returns-in-Unsent-clause-within g c =
    reads_known Unsent (g.R.Source.left c.args.reader.now) (g.R.Source.left c.loop-session.reader)
    (g.R.Source.left c.next_line.new.reader) (g.W.Sink.written c.args.writer.now)
    (g.W.Sink.written c.loop-session.writer) c.next_line.new.line.items c.loop-session.form 2048
    c.loop-session.budget c.next_line.new.budget c.loop-session.session c.loop-session.invariant.course
    c.in-Unsent.ensures.takes
