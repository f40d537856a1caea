-- How the controller ends a life.
use Rattle.std.specs.Prelude.{◌≡◌, ℕ, Option, Some, None, Result, Ok, Err}
use Rattle.swim_history.specs.Setting.{Setting}
use Rattle.swim_control.specs.declared.connections.Stand.{Stand}
use Rattle.swim_control.specs.declared.connections.Stand.TheVariants.{Ended}
use Rattle.swim_control.specs.declared.serving.Served.TheVariants as served
use Rattle.swim_control.specs.Connections.{TakesTurn}
use Rattle.swim_control.specs.Talks.{Talks}
use Rattle.swim_work.specs.declared.counts.Why.{Why}
use Rattle.swim_work.specs.declared.counts.Why.TheVariants.{JournalFull, Stopped}
use Rattle.swim_desk.specs.Desk.{Asks, AtDesk}

-- a life ends where a connection was answered that it is to stop, or met the full journal
abbrev pub why_at : Stand → Option Why
why_at (Ended served.Stopped) = Some Stopped
why_at (Ended served.JournalFull) = Some JournalFull
why_at stand = None

-- why a worker ends, if it does
abbrev pub end_of : {A : Type 0} → Result A Why → Option Why
end_of (Ok value) = None
end_of (Err why) = Some why

-- the newest turn of the connections ended a life so
abbrev pub EndsByTurn : Setting → ℕ → Why → Talks → Type 0
EndsByTurn o limit why connections =
    (now : ℕ) × (stand : Stand) × (before : Talks) × (desk : AtDesk) × (after : AtDesk)
    × TakesTurn (Asks o limit) now stand before connections desk after × (why_at stand ≡ Some why)
