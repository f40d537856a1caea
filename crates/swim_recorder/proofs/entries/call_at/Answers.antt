use Rattle.std.proofs.Common.{slice_get, reverse, sym}
use Rattle.swim_history.specs.Called.{entry_of}
use Rattle.swim_history.specs.Laws.Called.{called_there}
use Rattle.swim_recorder.proofs.Rest.{call_there, none_beyond}
use Rattle.swim_recorder.proofs.entries.call_at.Goals as goal

pub returns-in_default-clause-none : goal.returns-in_default-clause-none
returns-in_default-clause-none c = none_beyond c.args.journal.now.past c.args.place c.in_default.ensures

pub returns-clause-some : goal.returns-clause-some
returns-clause-some c =
    let past = c.args.journal.now.past in
    let place = c.args.place in
    let called = c.in-Some.called in
    let found = called_there (slice_get (reverse past) place) called c.in-Some.ensures in
    call_there past place (entry_of called found.0) (sym found.1)
