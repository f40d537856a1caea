use Rattle.std.proofs.Common.{Some, refl, inl}
use Rattle.swim_commands.specs.Words.{Run, Watch}
use Rattle.swimd.proofs.commands.program_commands.carry_out.Goals as goal

pub returns-in-Ok-Run-clause-done : goal.returns-in-Ok-Run-clause-done
returns-in-Ok-Run-clause-done g c =
    let runs = c.run.ensures.runs in
    inl (record {
      wanted = Some (Run c.in-Ok-Run.path.now c.in-Ok-Run.is_quiet);
      asked = rw c.in-Ok-Run.field-0-is at c.in-Ok-Run.ensures;
      done = (refl, runs);
    })

pub returns-in-Ok-Watch-clause-done : goal.returns-in-Ok-Watch-clause-done
returns-in-Ok-Watch-clause-done g c =
    let watched = c.watch_daemon.ensures.watches in
    inl (record {
      wanted = Some (Watch c.in-Ok-Watch.path.now c.in-Ok-Watch.is_json);
      asked = rw c.in-Ok-Watch.field-0-is at c.in-Ok-Watch.ensures;
      done = (watched, (refl, refl, refl));
    })
