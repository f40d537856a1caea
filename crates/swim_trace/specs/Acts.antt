-- Entries that have to do with probes, in the journals of several members. A probe is known by who began it, of whom,
-- and in which of the initiator's periods.
use Rattle.std.specs.Prelude.{ℕ, ◌==◌, List, [], ◌∷◌, ◌++◌, Option, Some, None, length, if◌then◌else◌}
use Rattle.std.specs.Option.{option_map}
use Rattle.swim_wire.specs.Address.{Address}
use Rattle.swim_wire.specs.Messages.{Message}
use Rattle.swim_history.specs.declared.calls.Call.{Call}
use Rattle.swim_history.specs.declared.calls.Call.TheVariants.{Hear}
use Rattle.swim_history.specs.declared.replies.Probe.{Probe}
use Rattle.swim_history.specs.declared.replies.Reply.{Reply}
use Rattle.swim_history.specs.declared.replies.Reply.TheVariants.{Started, Heard as AsCounted, Send, Dropped}
use Rattle.swim_history.specs.declared.entries.Entry.{Entry}
use Rattle.swim_trace.specs.declared.acts.Act.{Act}
use Rattle.swim_trace.specs.declared.acts.Answer.{Answer}
use Rattle.swim_trace.specs.declared.acts.Answer.TheVariants.{Sent, Counted, Dropped as AsDropped}
use Rattle.swim_trace.specs.declared.acts.Deed.TheVariants.{Probed, Heard}
use Rattle.swim_trace.specs.declared.acts.ProbeName.{ProbeName}
use Rattle.swim_trace.specs.declared.acts.Spot.{Spot}

-- what a member's file tells: whose it is, and its entries, newest first
pub record Run : Type 0 where
  pub me : ℕ
  pub past : List Entry

-- the probe that a message belongs to
abbrev pub name_of : Message → ProbeName
name_of m = record { initiator = m.initiator; target = m.target; number = m.number }

-- what a message was answered by a reply
abbrev pub answer_in : Reply → Option Answer
answer_in (Send peer message) = Some Sent
answer_in AsCounted = Some Counted
answer_in (Dropped why) = Some (AsDropped why)
answer_in reply = None

-- the entry by which a message came
abbrev pub heard_by : Spot → ℕ → Address → Message → Answer → Act
heard_by spot me source m answer = record {
  spot = spot;
  member = me;
  probe = name_of m;
  deed = Heard (record { kind = m.kind; sender = m.sender; source = source; answer = answer });
}

-- the entry by which a probe began
abbrev pub probed_by : Spot → ℕ → Probe → Act
probed_by spot me probe = record {
  spot = spot;
  member = me;
  probe = record { initiator = me; target = probe.target; number = probe.number };
  deed = Probed;
}

-- the probe that a start of that member began
abbrev pub begun_by : Spot → ℕ → Reply → Option Act
begun_by spot me (Started judged probe) = option_map (probed_by spot me) probe
begun_by spot me reply = None

-- what an entry of that member has to do with a probe
abbrev pub act_by : Spot → ℕ → Call → Reply → Option Act
act_by spot me (Hear source m) reply = option_map (heard_by spot me source m) (answer_in reply)
act_by spot me call reply = begun_by spot me reply

-- the act, where its probe has that number
abbrev pub if_numbered : ℕ → Option Act → List Act
if_numbered n None = []
if_numbered n (Some act) = if act.probe.number == n then act ∷ [] else []

abbrev pub spot_at : ℕ → ℕ → Spot
spot_at file place = record { file = file; place = place }

-- what the entries of a file have to do with probes of that number, oldest first
abbrev pub acts_in : ℕ → ℕ → ℕ → List Entry → List Act
acts_in n file me [] = []
acts_in n file me (e ∷ before) =
    acts_in n file me before ++ if_numbered n (act_by (spot_at file (length before)) me e.call e.reply)

-- the same of several files, the last one first
abbrev pub acts : ℕ → List Run → List Act
acts n [] = []
acts n (run ∷ before) = acts n before ++ acts_in n (length before) run.me run.past
