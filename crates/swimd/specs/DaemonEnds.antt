-- For which reasons the workers of a daemon end.
use Rattle.std.specs.Prelude.{◌≡◌, ℕ, ◌<◌, ◌≤◌, Bool, true, false, List, [], ◌∷◌, ◌++◌, map, replicate}
use Rattle.std.specs.Prelude.{Option, Some, None}
use Rattle.swim_history.specs.Setting.{Setting}
use Rattle.swim_node.specs.Seats.{Seated}
use Rattle.swim_control.specs.Talks.{Talks}
use Rattle.swim_work.specs.declared.counts.Why.{Why}
use Rattle.swim_work.specs.declared.counts.Why.TheVariants as whys
use Rattle.swim_work.specs.declared.lines.Got.{Got}
use Rattle.swim_work.specs.declared.lines.Got.TheVariants as gots
use Rattle.swim_work.specs.declared.paces.Beat.{Beat}
use Rattle.swim_work.specs.declared.paces.Beat.TheVariants as beats
use Rattle.swim_work.specs.Gates.{Received}
use Rattle.swim_desk.specs.Ending.{EndsByTurn}

-- a worker has no reason of its own where it ended as its life was over. Else it met a full journal, was told to stop,
-- or found its gate out of order, where that is so; and it never ends for want of memory
abbrev pub EndsFor : Type 0 → Type 0 → Type 0 → Option Why → Type 0
EndsFor full stopped broken None = Unit {0}
EndsFor full stopped broken (Some whys.JournalFull) = full
EndsFor full stopped broken (Some whys.NoMemory) = ⊥
EndsFor full stopped broken (Some whys.Socket) = broken
EndsFor full stopped broken (Some whys.Stopped) = stopped

-- of each answer of a gate it is told whether it was a fault: the newest ones, so many or more, all were
abbrev pub EndWithFaults : ℕ → List Bool → Type 0
EndWithFaults count faults =
    (before : List Bool) × (row : ℕ) × (count ≤ row) × (faults ≡ before ++ replicate row true)

-- the line is out of order
abbrev pub is_fault : Got → Bool
is_fault gots.Fault = true
is_fault got = false

abbrev pub faults_in : List Received → List Bool
faults_in given = map (λ r. is_fault r.got) given

-- the receiver ends behind 16 faults of its line in a row, or as its seat met a full journal, and nobody tells it to
-- stop
abbrev pub EndsHearing : Seated → Option Why → List Received → Type 0
EndsHearing seat why given = EndsFor (0 < seat.full) ⊥ (EndWithFaults 16 (faults_in given)) why

-- the ticker ends behind a stop of its pace, or as its seat met a full journal, and a pace is never out of order
abbrev pub EndsTicking : Seated → Option Why → List Beat → Type 0
EndsTicking seat why given =
    EndsFor (0 < seat.full) ((before : List Beat) × (given ≡ before ++ beats.Stop ∷ [])) ⊥ why

-- the controller ends behind 16 faults of its door in a row, or with the newest turn of a connection, which was
-- answered that it is to stop, or met the full journal
abbrev pub EndsControlling : Setting → ℕ → Option Why → List Bool → Talks → Type 0
EndsControlling o limit why faults connections =
    EndsFor (EndsByTurn o limit whys.JournalFull connections) (EndsByTurn o limit whys.Stopped connections)
    (EndWithFaults 16 faults) why
