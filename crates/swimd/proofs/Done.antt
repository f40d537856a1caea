-- What was done is what the words asked.
use Rattle.std.proofs.Common.{Option}
use Rattle.swimd.specs.Commands.{Does, DoesWanted, Streams}
use Rattle.swim_commands.specs.Words.{Wanted}
use Rattle.swim_outcomes.specs.declared.outcomes.Outcome.{Outcome}

pub wanted_done : (asks : Option Wanted → Type 0) (wanted : Option Wanted) (old new : Streams) (outcome : Outcome) →
    asks wanted → DoesWanted wanted old new outcome → Does asks old new outcome
wanted_done asks wanted old new outcome asked done = record { wanted = wanted; asked = asked; done = done }
