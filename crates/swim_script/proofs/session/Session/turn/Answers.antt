use Rattle.std.proofs.Common.{◌≡◌, ◌∷◌, ◌+◌, refl, sym, ap, subst, ◌∙◌, Ok, Err, Some, None, inl}
use Rattle.swim_text.specs.Streams.{keeps_self}
use Rattle.swim_script.specs.Commands.{fault_of_word, word_for, LineStandsAt}
use Rattle.swim_script.specs.Headers.{read_after}
use Rattle.swim_script.specs.Script.{lines_of, at_line}
use Rattle.swim_script.specs.declared.faults.FaultKind.TheVariants.{Words}
use Rattle.swim_script.specs.Holds.{Holds}
use Rattle.swim_script.proofs.Turns.{taken, stage_is, skipped, marked_read, unmarked_read}
use Rattle.swim_script.proofs.LineTurns.{silent_turn, turned_by}
use Rattle.swim_script.proofs.session.Session.turn.Goals as goal

pub returns-then-begins_journal-clause-turned : goal.returns-then-begins_journal-clause-turned
returns-then-begins_journal-clause-turned g c = λ turns run text piece h is told.
    let W = g.W.Sink.written c.args.writer.now in
    let read : read_after (lines_of turns) piece ≡ Ok None =
    marked_read turns piece c.args.line.now c.args.self.now.lines h.count is
    (sym c.begins_journal.ensures ∙ c.if-begins_journal.true) in
    silent_turn turns run text piece c.skip.new.self W W (rw read refl) (keeps_self W)
    (subst (Holds (taken piece ∷ turns) run text) (sym c.skip.ensures)
    (skipped turns run text piece c.args.self.now read h))

pub returns-in-Ok-None-clause-turned : goal.returns-in-Ok-None-clause-turned
returns-in-Ok-None-clause-turned g c = λ turns run text piece h is told.
    let W = g.W.Sink.written c.args.writer.now in
    let read : read_after (lines_of turns) piece ≡ Ok None =
    unmarked_read turns piece c.args.line.now c.args.form c.stage.result c.args.self.now.lines (Ok None) h.count is told
    (sym c.begins_journal.ensures ∙ c.if-begins_journal.false)
    (stage_is turns run text c.args.self.now h ∙ sym c.stage.ensures)
    (sym c.in-Ok-None.ensures.exact ∙ ap Ok c.in-Ok-None.field-0-is) in
    silent_turn turns run text piece c.skip-in-Ok-None.new.self W W (rw read refl) (keeps_self W)
    (subst (Holds (taken piece ∷ turns) run text) (sym c.skip-in-Ok-None.ensures)
    (skipped turns run text piece c.args.self.now read h))

pub returns-in-Ok-Some-clause-turned : goal.returns-in-Ok-Some-clause-turned
returns-in-Ok-Some-clause-turned g c = λ turns run text piece h is told.
    let read : read_after (lines_of turns) piece ≡ Ok (Some c.in-Ok-Some.command) =
    unmarked_read turns piece c.args.line.now c.args.form c.stage.result c.args.self.now.lines
    (Ok (Some c.in-Ok-Some.command)) h.count is told (sym c.begins_journal.ensures ∙ c.if-begins_journal.false)
    (stage_is turns run text c.args.self.now h ∙ sym c.stage.ensures)
    (sym c.in-Ok-Some.ensures.exact ∙ ap Ok c.in-Ok-Some.field-0-is) in
    turned_by turns run text piece c.args.self.now c.carry_out.new.self c.in-Ok-Some.command
    (g.W.Sink.written c.args.writer.now) (g.W.Sink.written c.carry_out.new.writer) c.carry_out.result read
    (subst (λ st. fault_of_word st (word_for c.in-Ok-Some.command) ≡ None) c.stage.ensures
    (subst (λ f. LineStandsAt c.stage.result (Ok f)) c.in-Ok-Some.field-0-is c.in-Ok-Some.ensures.stands)) h
    c.carry_out.ensures.done

pub returns-in-Err-clause-turned : goal.returns-in-Err-clause-turned
returns-in-Err-clause-turned g c = λ turns run text piece h is told.
    let W = g.W.Sink.written c.args.writer.now in
    let read : read_after (lines_of turns) piece ≡ Err c.in-Err.fault =
    unmarked_read turns piece c.args.line.now c.args.form c.stage.result c.args.self.now.lines (Err c.in-Err.fault)
    h.count is told (sym c.begins_journal.ensures ∙ c.if-begins_journal.false)
    (stage_is turns run text c.args.self.now h ∙ sym c.stage.ensures) (sym c.in-Err.ensures.exact) in
    inl (
      rw read (ap (λ n. Some (at_line (n + 1) (Words c.in-Err.fault))) (sym h.count) ∙
          ap (λ f. Some f) (sym c.fault.ensures)),
      keeps_self W,
    )
