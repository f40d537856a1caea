use Rattle.std.proofs.Common.{◌++◌, Some, option_map, refl, sym, ap, subst, ◌∙◌}
use Rattle.swim_commands.specs.Asking.{Asks}
use Rattle.swimd.specs.Commands.{AsksWanted}
use Rattle.swimd.proofs.commands.program_commands.ask_for.Goals as goal

pub returns-in-Some : goal.returns-in-Some
returns-in-Some g c =
    subst (λ line. AsksWanted c.args.request.now.form (option_map (λ line. line.items) line)
    (g.S.Source.left c.args.reader.now)
    (g.S.Source.left c.args.reader.now)
    (g.W.Sink.written c.args.writer.now) (g.W.Sink.written c.ask_daemon-in-Some.new.writer) c.ask_daemon-in-Some.result)
    (sym c.in-Some.is) (
      refl,
      (
        Some (c.ask_daemon-in-Some.new.reader.buffered ++ c.ask_daemon-in-Some.new.reader.reader.now),
        subst (λ text. Asks c.args.request.now.form (Some text)
            (Some (c.ask_daemon-in-Some.new.reader.buffered ++ c.ask_daemon-in-Some.new.reader.reader.now))
            (g.W.Sink.written c.args.writer.now) (g.W.Sink.written c.ask_daemon-in-Some.new.writer)
            c.ask_daemon-in-Some.result)
            (ap (λ source. source.buffered ++ source.reader.now) c.new-line.ensures ∙ c.as_slice.ensures.value)
            c.ask_daemon-in-Some.ensures,
      ),
    )
