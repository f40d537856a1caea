-- How a command of the program ends: its status, and what is told on standard error.
use Rattle.std.specs.Prelude.{ℕ, List, [], codes}
use Rattle.swim_config.specs.declared.config_fault.ConfigFault.TheVariants as faults
use Rattle.swim_outcomes.specs.declared.outcomes.Outcome.{Outcome}
use Rattle.swim_outcomes.specs.declared.outcomes.Outcome.TheVariants.{Checked, Stopped, Asked, Usage, Unread, Refused}
use Rattle.swim_outcomes.specs.declared.outcomes.Outcome.TheVariants.{Unwritten, NoListen, NoControl}
use Rattle.swim_outcomes.specs.declared.outcomes.Outcome.TheVariants.{NoMemory, Socket, NoPlace}
use Rattle.swim_outcomes.specs.declared.outcomes.Outcome.TheVariants.{NoDaemon}
use Rattle.swim_outcomes.specs.declared.outcomes.Outcome.TheVariants.{AskRefused, AskTimeout, Unanswered, AskUnwritten}
use Rattle.swim_outcomes.specs.declared.outcomes.Outcome.TheVariants.{AskUnread, Helped, NoRandom}
use Rattle.swim_outcomes.specs.declared.outcomes.Outcome.TheVariants.{NoEvents, NoTeller, WatchUnwritten}
use Rattle.swim_outcomes.specs.declared.outcomes.Outcome.TheVariants.{NoWeb, WebOver}
use Rattle.swim_config.specs.FaultTexts.{fault_text}

abbrev pub status_of : Outcome → ℕ
status_of Checked = 0
status_of Stopped = 0
status_of Asked = 0
status_of AskRefused = 3
status_of AskTimeout = 5
status_of Unanswered = 5
status_of AskUnwritten = 1
status_of AskUnread = 1
status_of Helped = 0
status_of NoRandom = 5
status_of Usage = 2
status_of Unread = 1
status_of (Refused faults.NoMemory) = 4
status_of (Refused fault) = 1
status_of Unwritten = 1
status_of NoListen = 5
status_of NoControl = 5
status_of NoEvents = 5
status_of NoMemory = 4
status_of Socket = 5
status_of NoPlace = 4
status_of NoDaemon = 5
status_of NoTeller = 5
status_of WatchUnwritten = 1
status_of NoWeb = 5
status_of WebOver = 5

abbrev pub outcome_text : Outcome → List ℕ
outcome_text Checked = []
outcome_text Stopped = []
outcome_text Asked = []
outcome_text AskRefused = []
outcome_text AskTimeout = codes "ask timeout\n"
outcome_text Unanswered = codes "ask unanswered\n"
outcome_text AskUnwritten = codes "ask write\n"
outcome_text AskUnread = codes "ask read\n"
outcome_text Helped = []
outcome_text NoRandom = codes "random source\n"
outcome_text Usage = codes "usage\n"
outcome_text Unread = codes "configuration file\n"
outcome_text (Refused fault) = fault_text fault
outcome_text Unwritten = []
outcome_text NoListen = codes "bind listen\n"
outcome_text NoControl = codes "bind control\n"
outcome_text NoEvents = codes "bind events\n"
outcome_text NoMemory = codes "no memory\n"
outcome_text Socket = []
outcome_text NoPlace = codes "no place\n"
outcome_text NoDaemon = codes "connect control\n"
outcome_text NoTeller = codes "connect events\n"
outcome_text WatchUnwritten = codes "watch write\n"
outcome_text NoWeb = codes "bind web\n"
outcome_text WebOver = codes "web wait\n"
