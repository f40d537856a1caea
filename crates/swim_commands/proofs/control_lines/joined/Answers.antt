use Rattle.std.proofs.Common.{sym, ◌∙◌}
use Rattle.swim_commands.proofs.ControlLines.{taken_within, words_joined}
use Rattle.swim_commands.proofs.control_lines.joined.Goals as goal

pub returns-in-Some-clause-joined : goal.returns-in-Some-clause-joined
returns-in-Some-clause-joined c =
    words_joined _ c.spaced-spaced.result.items c.in-Some.rest.now c.front_of.result.items c.in-Some._space.now
    c.spaced-spaced.ensures (sym c.as_slice.ensures.value ∙ c.in-Some.ensures.cases.0) c.front_of.ensures

pub returns-in-Some-clause-room : goal.returns-in-Some-clause-room
returns-in-Some-clause-room c = taken_within 129 _ _ c.front_of.ensures
