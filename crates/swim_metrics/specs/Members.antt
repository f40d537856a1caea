-- What is counted of each member of the table, since it came into the table.
use Rattle.std.specs.Prelude.{ℕ, ◌+◌, ◌==◌, not, ◌&&◌, Bool, true, false, List, [], ◌∷◌, map, count_by, find}
use Rattle.std.specs.Prelude.{Option, Some, None, is_some, if◌then◌else◌}
use Rattle.std.specs.List.{list_any}
use Rattle.std.specs.Option.{option_map, option_or, unwrap_or}
use Rattle.swim_wire.specs.Ids.{has}
use Rattle.swim_wire.specs.Messages.{Message}
use Rattle.swim_history.specs.declared.calls.Call.{Call}
use Rattle.swim_history.specs.declared.calls.Call.TheVariants.{Hear}
use Rattle.swim_history.specs.declared.replies.Relay.{Relay}
use Rattle.swim_history.specs.declared.replies.Reply.{Reply}
use Rattle.swim_history.specs.declared.replies.Reply.TheVariants.{Asked, Heard, Started}
use Rattle.swim_history.specs.declared.entries.Entry.{Entry}
use Rattle.swim_history.specs.declared.rows.Row.{Row}
use Rattle.swim_history.specs.declared.rows.Change.{Change}
use Rattle.swim_history.specs.Changes.{table}
use Rattle.swim_history.specs.Events.{judged_in}
use Rattle.swim_history.specs.Gap.{is_member}
use Rattle.swim_history.specs.Setting.{Setting, ids_of, is_state_up}
use Rattle.swim_events.specs.Watched.{Lived}
use Rattle.swim_metrics.specs.Counting.{capped}
use Rattle.swim_metrics.specs.declared.member_figures.MemberFigures.{MemberFigures}
use Rattle.swim_metrics.specs.declared.member_tallies.MemberTally.{MemberTally}

-- ---- tests on an entry

-- the number of an ack, if it is of this member
abbrev pub acked_number : ℕ → Message → Option ℕ
acked_number m ack = if ack.target == m then Some ack.number else None

-- the number of the period for which an ack of a member came in time
abbrev pub heard_number : ℕ → Call → Reply → Option ℕ
heard_number m (Hear source ack) Heard = acked_number m ack
heard_number m call reply = None

-- an ack of a member came in time: from the member itself, or from a relay
abbrev pub is_acked_directly : ℕ → Call → Reply → Bool
is_acked_directly m (Hear source ack) Heard = ack.target == m && ack.sender == m
is_acked_directly m call reply = false

abbrev pub is_acked_by_relay : ℕ → Call → Reply → Bool
is_acked_by_relay m (Hear source ack) Heard = ack.target == m && not (ack.sender == m)
is_acked_by_relay m call reply = false

-- a member is asked to ping another one
abbrev pub is_asked : ℕ → Reply → Bool
is_asked m (Asked target peer number relays) = list_any (λ relay. relay.id == m) relays.items
is_asked m reply = false

abbrev pub acked_directly : ℕ → Entry → Bool
acked_directly m e = is_acked_directly m e.call e.reply

abbrev pub acked_by_relay : ℕ → Entry → Bool
acked_by_relay m e = is_acked_by_relay m e.call e.reply

abbrev pub judges_it : ℕ → Entry → Bool
judges_it m e = is_member m (judged_in e.reply)

abbrev pub asks_it : ℕ → Entry → Bool
asks_it m e = is_asked m e.reply

-- ---- what entries say of a member

-- the number of the last period in which an ack of a member came in time
abbrev pub last_number : ℕ → List Entry → Option ℕ
last_number m [] = None
last_number m (e ∷ before) = option_or (heard_number m e.call e.reply) (last_number m before)

-- the periods in a row after an ack in time: none, if it came from the member itself, and else one more, if it is the
-- first of its period
abbrev pub relayed_by : ℕ → Message → Option ℕ → ℕ → ℕ
relayed_by m ack heard n =
    if ack.target == m
    then (if ack.sender == m then 0 else (if is_member ack.number heard then n else capped (n + 1)))
    else n

abbrev pub relayed_then : ℕ → Call → Reply → Option ℕ → ℕ → ℕ
relayed_then m (Hear source ack) Heard heard n = relayed_by m ack heard n
relayed_then m call reply heard n = if is_member m (judged_in reply) then 0 else n

-- in how many periods in a row, the last in which a member was heard, acks of it came from relays alone
abbrev pub relayed_in : ℕ → List Entry → ℕ
relayed_in m [] = 0
relayed_in m (e ∷ before) = relayed_then m e.call e.reply (last_number m before) (relayed_in m before)

abbrev pub no_tally : MemberTally
no_tally = record { heard = None; directly = 0; by_relay = 0; verdicts = 0; asked = 0; relayed = 0 }

-- what these entries say of a member
abbrev pub tally_of : ℕ → List Entry → MemberTally
tally_of m entries = record {
  heard = last_number m entries;
  directly = capped (count_by (acked_directly m) entries);
  by_relay = capped (count_by (acked_by_relay m) entries);
  verdicts = capped (count_by (judges_it m) entries);
  asked = capped (count_by (asks_it m) entries);
  relayed = relayed_in m entries;
}

-- ---- since when

-- the member is in the table
abbrev pub is_known : Setting → List Entry → ℕ → Bool
is_known o h m = has (ids_of (table o h)) m

-- the entries of a life since a member came into the table, the newest first: at each of them it was in the table. If
-- it was all the life, those from before it follow
abbrev pub since_in : ℕ → Setting → List Entry → List Entry → List Entry
since_in m o [] before = before
since_in m o (e ∷ past) before = if is_known o past m then e ∷ since_in m o past before else []

-- those from before a life; none, if the member wasn't in the table as the life before ended
abbrev pub since_before : ℕ → List Lived → List Entry
since_before m [] = []
since_before m (life ∷ older) =
    if is_known life.opening life.past m then since_in m life.opening life.past (since_before m older) else []

-- the entries of all lives since a member came into the table
abbrev pub since_known : ℕ → List Lived → List Entry
since_known m [] = []
since_known m (life ∷ older) = since_in m life.opening life.past (since_before m older)

-- ---- the members that are told

-- of a member of the table
abbrev pub figures_of : List Lived → Row → MemberFigures
figures_of lives row = record {
  id = row.id;
  is_up = is_state_up row.state;
  tally = tally_of row.id (since_known row.id lives);
}

-- of each member of the table as it is now, ascending by id
abbrev pub members_of : List Lived → List MemberFigures
members_of [] = []
members_of (life ∷ older) = map (figures_of (life ∷ older)) (table life.opening life.past)

-- ---- the members that are held

-- what is counted of a member after an entry
abbrev pub tally_then : ℕ → Call → Reply → MemberTally → MemberTally
tally_then m call reply t = record {
  heard = option_or (heard_number m call reply) t.heard;
  directly = capped (t.directly + (if is_acked_directly m call reply then 1 else 0));
  by_relay = capped (t.by_relay + (if is_acked_by_relay m call reply then 1 else 0));
  verdicts = capped (t.verdicts + (if is_member m (judged_in reply) then 1 else 0));
  asked = capped (t.asked + (if is_asked m reply then 1 else 0));
  relayed = relayed_then m call reply t.heard t.relayed;
}

abbrev pub figures_then : Call → Reply → MemberFigures → MemberFigures
figures_then call reply row = record row { tally = tally_then row.id call reply row.tally }

-- an entry with this reply counts for members: one is heard, judged or asked
abbrev pub is_of_members : Reply → Bool
is_of_members Heard = true
is_of_members (Asked target peer number relays) = true
is_of_members (Started judged probe) = is_some judged
is_of_members reply = false

abbrev pub counted_then : Call → Reply → List MemberFigures → List MemberFigures
counted_then call reply rows = if is_of_members reply then map (figures_then call reply) rows else rows

-- what was counted of a member, if it is among these
abbrev pub tally_in : ℕ → List MemberFigures → MemberTally
tally_in m rows = unwrap_or (option_map (λ row. row.tally) (find (λ row. row.id == m) rows)) no_tally

abbrev pub carried_row : List MemberFigures → Row → MemberFigures
carried_row old row = record { id = row.id; is_up = is_state_up row.state; tally = tally_in row.id old }

-- the members of a table, each with what was counted of it until now
abbrev pub carried : List MemberFigures → List Row → List MemberFigures
carried old rows = map (carried_row old) rows

-- the members after an entry that makes this change of the table, if any
abbrev pub changed_then : Option Change → List Row → List MemberFigures → List MemberFigures
changed_then None rows old = old
changed_then (Some change) rows old = carried old rows
