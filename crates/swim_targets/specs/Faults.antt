-- The numbers of the faults of a list of members.
use Rattle.std.specs.Prelude.{ℕ}
use Rattle.swim_targets.specs.declared.rounds.JoinFault.{JoinFault}
use Rattle.swim_targets.specs.declared.rounds.JoinFault.TheVariants.{Listed, Full}

abbrev pub join_number : JoinFault → ℕ
join_number Listed = 1
join_number Full = 2
