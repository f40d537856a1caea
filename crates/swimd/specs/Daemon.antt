-- What a daemon does.
use Rattle.std.specs.Prelude.{◌≡◌, ◌⊎◌, ℕ, ◌-◌, ◌^◌, min, List, [], Option, Some}
use Rattle.swim_config.specs.declared.config.Config.{Config}
use Rattle.swim_config.specs.declared.config_fault.ConfigFault.TheVariants as faults
use Rattle.swim_crew.specs.declared.pasts.LivesEnd.{LivesEnd}
use Rattle.swim_crew.specs.declared.pasts.LivesEnd.TheVariants as ends
use Rattle.swim_outcomes.specs.declared.outcomes.Outcome.{Outcome}
use Rattle.swim_outcomes.specs.declared.outcomes.Outcome.TheVariants.{Refused, NoListen}
use Rattle.swim_outcomes.specs.declared.outcomes.Outcome.TheVariants.{NoControl, NoMemory, Stopped}
use Rattle.swim_outcomes.specs.declared.outcomes.Outcome.TheVariants.{Socket}
use Rattle.swim_outcomes.specs.declared.outcomes.Outcome.TheVariants.{NoEvents, NoPlace}
use Rattle.swim_config.specs.Beginnings.{begun_at}
use Rattle.swim_telling.specs.Notices.{Notices}
use Rattle.swim_telling.specs.Telling.{Written}
use Rattle.swim_checks.specs.Checking.{Warned}
use Rattle.swim_checks.specs.Configured.{IsConfiguration, IsNoConfiguration}
use Rattle.swimd.specs.DaemonLives.{AreDaemonLives, AtDaemon, IsBeginning}
use Rattle.swim_writer.specs.Documents.{Document}

-- how a daemon ends whose lives ended so
abbrev pub outcome_of : LivesEnd → Outcome
outcome_of ends.Stopped = Stopped
outcome_of ends.Socket = Socket
outcome_of ends.NoMemory = Refused faults.NoMemory
outcome_of ends.NoPlace = NoPlace

-- the N of a daemon of this configuration: there is a knock at each N-th start of a period. The key has no higher
-- number
abbrev pub rejoin_of : Config → ℕ
rejoin_of config = min config.rejoin (2 ^ 16 - 1)

-- lives were lived from the configuration's opening, with journals of at most as many entries as it says and draws of
-- its seed, over gates of the daemon's own, by which nothing had come in or gone out before
pub record IsLivedBy (config : Config) (old new : Written) (outcome : Outcome) : Type 0 where
  pub end : LivesEnd
  pub before : AtDaemon
  pub after : AtDaemon
  pub lived : AreDaemonLives (Some []) (record { seed = config.seed; limit = config.journal }) config.opening before
      after end
  pub beginning : IsBeginning config.opening before
  pub began : before.told.keeper.lines ≡ old
  pub ended : after.told.keeper.lines ≡ new
  pub is : outcome ≡ outcome_of end

-- why there is no control socket, and no events' socket
abbrev pub IsNoDoor : Outcome → Type 0
IsNoDoor outcome = (outcome ≡ NoControl) ⊎ (outcome ≡ NoMemory)

abbrev pub IsNoEntrance : Outcome → Type 0
IsNoEntrance outcome = outcome ≡ NoEvents

-- what a daemon of this configuration does: without its sockets nothing is written
abbrev pub Starts : Config → Written → Written → Outcome → Type 0
Starts config old new NoListen = new ≡ old
Starts config old new NoControl = new ≡ old
Starts config old new NoEvents = new ≡ old
Starts config old new NoMemory = new ≡ old
Starts config old new outcome = IsLivedBy config old new outcome

-- what a daemon of this configuration does, and tells on standard error: what it warns of, and notices behind that
pub record RunsBy (config : Config) (old new faults_old faults_new : Written) (outcome : Outcome) : Type 0 where
  -- the time, in milliseconds since 1970
  pub now : ℕ
  pub starts : Starts (begun_at now config) old new outcome
  pub between : Written
  pub warned : Warned config faults_old between
  pub noticed : Notices between faults_new

-- what a daemon of the configuration in the file at this path does: without a configuration nothing is written
abbrev pub Runs : List ℕ → Option (List Document) → Option (List Document) → Written → Written → Written → Written →
    Outcome → Type 0
Runs path read_old read_new old new faults_old faults_new outcome =
    (IsNoConfiguration path read_old read_new outcome × (new ≡ old) × (faults_new ≡ faults_old))
    ⊎ ((config : Config) × IsConfiguration path read_old read_new config
    × RunsBy config old new faults_old faults_new outcome)
