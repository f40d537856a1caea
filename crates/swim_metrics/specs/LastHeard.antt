-- When members were last heard.
use Rattle.std.specs.Prelude.{◌≡◌, ℕ, ◌==◌, not, nat_lt, false, List, [], ◌∷◌, map, filter, length, Option, Some, None}
use Rattle.std.specs.Prelude.{if◌then◌else◌, find}
use Rattle.std.specs.Option.{option_map}
use Rattle.swim_wire.specs.Ids.{most_members, has_twice}
use Rattle.swim_history.specs.declared.calls.Call.{Call}
use Rattle.swim_history.specs.declared.calls.Call.TheVariants.{Hear, Remove}
use Rattle.swim_history.specs.declared.replies.Reply.{Reply}
use Rattle.swim_history.specs.declared.replies.Reply.TheVariants.{Heard, Removed}
use Rattle.swim_history.specs.declared.entries.Entry.{Entry}
use Rattle.swim_history.specs.Setting.{Setting}
use Rattle.swim_history.specs.Clock.{period_number}
use Rattle.swim_history.specs.Aim.{aim}
use Rattle.swim_history.specs.Gap.{is_member}
use Rattle.swim_metrics.specs.declared.hearings.LastHearing.{LastHearing}

-- the number after an entry: an ack in time is of the member if that is the aim, and who is removed is forgotten
abbrev pub heard_then : Call → Reply → Option ℕ → ℕ → ℕ → Option ℕ → Option ℕ
heard_then (Hear source ack) Heard aimed number m old = if is_member m aimed then Some number else old
heard_then (Remove id) Removed aimed number m old = if id == m then None else old
heard_then call reply aimed number m old = old

-- the number of the period in which an ack of a member last came in time, if one did since the member was last removed
abbrev pub last_heard : Setting → List Entry → ℕ → Option ℕ
last_heard o [] m = None
last_heard o (e ∷ before) m =
    heard_then e.call e.reply (aim before) (period_number o before) m (last_heard o before m)

-- ---- the hearings that are held

abbrev pub heard_at : List LastHearing → ℕ → Option ℕ
heard_at rows m = option_map (λ row. row.number) (find (λ row. row.member == m) rows)

-- what is held of members is what this history says
abbrev pub Tell : List LastHearing → Setting → List Entry → Type 0
Tell rows o h = (m : ℕ) → heard_at rows m ≡ last_heard o h m

abbrev pub members : List LastHearing → List ℕ
members rows = map (λ row. row.member) rows

-- each is of another member
abbrev pub AreDifferent : List LastHearing → Type 0
AreDifferent rows = has_twice (members rows) ≡ false

abbrev pub forgotten : ℕ → List LastHearing → List LastHearing
forgotten id rows = filter (λ row. not (row.member == id)) rows

-- one more in front, in the place of the one with its id; without room for it that one is taken out alone
abbrev pub noted : ℕ → ℕ → List LastHearing → List LastHearing
noted id number rows =
    if nat_lt (length (forgotten id rows)) most_members
    then record { member = id; number = number } ∷ forgotten id rows else forgotten id rows

-- the hearings after an entry
abbrev pub rows_then : Call → Reply → List LastHearing → List LastHearing
rows_then (Hear source ack) Heard rows = noted ack.target ack.number rows
rows_then (Remove id) Removed rows = forgotten id rows
rows_then call reply rows = rows
