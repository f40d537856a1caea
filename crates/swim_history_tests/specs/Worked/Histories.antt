-- Worked runs: the definitions, evaluated on histories that were written down by hand.
use Rattle.std.specs.Prelude.{◌≡◌, ℕ, List, [], ◌∷◌, length, Option, Some, None, refl}
use Rattle.std.proofs.Common.{lit<, arith}
use Rattle.std.proofs.lemmas.List.Sorted.{IsPermutation-refl}
use Rattle.swim_wire.specs.Address.{Address}
use Rattle.swim_wire.specs.declared.messages.Kind.TheVariants.{Ping, PingReq, Ack}
use Rattle.swim_wire.specs.declared.messages.Version.TheVariants.{One}
use Rattle.swim_history.specs.declared.rows.Row.{Row}
use Rattle.swim_history.specs.declared.rows.RowState.TheVariants.{Failed}
use Rattle.swim_history.specs.declared.calls.Call.{Call}
use Rattle.swim_history.specs.declared.calls.Call.TheVariants.{Tick, Hear, Join, Remove}
use Rattle.swim_history.specs.declared.replies.Reply.{Reply}
use Rattle.swim_history.specs.declared.replies.Reply.TheVariants.{Quiet, Started, Asked, Heard, Send, Dropped, Joined}
use Rattle.swim_history.specs.declared.replies.Reply.TheVariants.{Removed, Refused}
use Rattle.swim_history.specs.declared.replies.Relay.{Relay}
use Rattle.swim_history.specs.declared.replies.DropReason.TheVariants.{Stray}
use Rattle.swim_history.specs.declared.replies.Refusal.TheVariants.{Spent}
use Rattle.swim_history.specs.declared.entries.Choice.{Choice}
use Rattle.swim_history.specs.declared.entries.Choice.TheVariants.{Nothing, Round}
use Rattle.swim_history.specs.declared.entries.Entry.{Entry}
use Rattle.swim_history.specs.Setting.{Setting}
use Rattle.swim_history.specs.Clock.{period_number}
use Rattle.swim_history.specs.Aim.{aim, unheard}
use Rattle.swim_history.specs.Rows.{row_of, up}
use Rattle.swim_history.specs.Changes.{table}
use Rattle.swim_history.specs.Round.{lists}
use Rattle.swim_history.specs.Waiting.{waiting}
use Rattle.swim_history.specs.Run.{Continues, IsRun}
use Rattle.swim_history.specs.Judgement.{judgements}
use Rattle.swim_history.specs.Probes.{probes}

-- member n listens at 10.0.0.n:7000
abbrev pub at : ℕ → Address
at n = record { ip = 10 ∷ 0 ∷ 0 ∷ n ∷ []; port = 7000 }

abbrev pub known : ℕ → Row
known n = up n (at n)

-- a detector of member 1 with a timeout of one tick and a period of three
abbrev pub of_members : ℕ → ℕ → List Row → Setting
of_members k last rows = record { me = 1; k = k; rtt = 1; period = 3; rows = rows; last = last; version = One }

-- an entry of the one caller
abbrev pub entry : ℕ → Call → Reply → Choice → Entry
entry number call reply choice = record { seat = 0; number = number; call = call; choice = choice; reply = reply }

abbrev pub round : List ℕ → Choice
round order = Round (record { items = order })

abbrev pub starting : ℕ → Option ℕ → ℕ → ℕ → Choice → Entry
starting place judged target number choice =
    entry place Tick (Started judged (Some (record { target = target; peer = at target; number = number }))) choice

abbrev pub asking : ℕ → ℕ → ℕ → List Relay → Entry
asking place target number relays =
    entry place Tick (Asked target (at target) number (record { items = relays })) Nothing

-- one member and no relays: the probe, the empty ask, a quiet tick and the judgement
abbrev silent_member : Setting
silent_member = of_members 0 0 (known 2 ∷ [])

abbrev silence : List Entry
silence =
    entry 3 Tick (Started (Some 2) None) Nothing
    ∷ entry 2 Tick Quiet Nothing
    ∷ asking 1 2 1 []
    ∷ starting 0 None 2 1 (round (2 ∷ []))
    ∷ []

silence_judges : judgements silent_member silence ≡ record { member = 2; number = 1 } ∷ []
silence_judges = refl

silence_probes : probes silence ≡ record { target = 2; peer = at 2; number = 1 } ∷ []
silence_probes = refl

silence_fails : table silent_member silence ≡ record { id = 2; peer = at 2; state = Failed 1 } ∷ []
silence_fails = refl

silence_is_run : IsRun silent_member silence
silence_is_run = (
  record {
    seat = lit< tt;
    number = refl;
    answer =
        record { begins = refl; unspent = lit< tt; judges = refl; draws = λ e. refl; probes = refl };
  },
  (
    record { seat = lit< tt; number = refl; answer = (λ e. absurd cc, λ e. absurd cc) },
    (
      record {
        seat = lit< tt;
        number = refl;
        answer =
            (refl, refl, refl, record { count = refl; once = refl; each = tt }, refl);
      },
      (
        record {
          seat = lit< tt;
          number = refl;
          answer =
              record {
                begins = refl;
                unspent = lit< tt;
                judges = refl;
                draws =
                    (refl, λ e. absurd cc, IsPermutation-refl _);
                probes = (at 2, refl, refl);
              };
        },
        tt,
      ),
    ),
  ),
)

-- two members and one relay: the aim of the first period is judged, and the other member is probed next
abbrev pub two_members : Setting
two_members = of_members 1 0 (known 2 ∷ known 3 ∷ [])

abbrev pub first_start : Entry
first_start = starting 0 None 2 1 (round (2 ∷ 3 ∷ []))

abbrev pub two_periods : List Entry
two_periods =
    starting 3 (Some 2) 3 2 Nothing
    ∷ entry 2 Tick Quiet Nothing
    ∷ asking 1 2 1 (record { id = 3; peer = at 3 } ∷ [])
    ∷ first_start
    ∷ []

two_periods_judge : judgements two_members two_periods ≡ record { member = 2; number = 1 } ∷ []
two_periods_judge = refl

two_periods_show : table two_members two_periods ≡ record { id = 2; peer = at 2; state = Failed 1 } ∷ known 3 ∷ []
two_periods_show = refl

two_periods_list : lists two_members two_periods ≡ record { probed = 3 ∷ []; rest = [] }
two_periods_list = refl

pub two_periods_are_run : IsRun two_members two_periods
two_periods_are_run = (
  record {
    seat = lit< tt;
    number = refl;
    answer =
        record { begins = refl; unspent = lit< tt; judges = refl; draws = λ e. refl; probes = (at 3, refl, refl) };
  },
  (
    record { seat = lit< tt; number = refl; answer = (λ e. absurd cc, λ e. absurd cc) },
    (
      record {
        seat = lit< tt;
        number = refl;
        answer =
            (refl, refl, refl, record { count = refl; once = refl; each = ((refl, refl), tt) }, refl);
      },
      (
        record {
          seat = lit< tt;
          number = refl;
          answer =
              record {
                begins = refl;
                unspent = lit< tt;
                judges = refl;
                draws =
                    (refl, λ e. absurd cc, IsPermutation-refl _);
                probes = (at 2, refl, refl);
              };
        },
        tt,
      ),
    ),
  ),
)

-- then a listed member is removed, and another joins
abbrev one_for_another : List Entry
one_for_another = entry 5 (Join 4 (at 4)) (Joined 0) Nothing ∷ entry 4 (Remove 3) Removed Nothing ∷ two_periods

one_for_another_shows : table two_members one_for_another ≡
    record { id = 2; peer = at 2; state = Failed 1 } ∷ known 4 ∷ []
one_for_another_shows = refl

one_for_another_is_run : IsRun two_members one_for_another
one_for_another_is_run = (
  record {
    seat = lit< tt;
    number = refl;
    answer =
        (λ e. absurd (omega arith), refl, λ e f. absurd (omega arith), omega arith);
  },
  (record { seat = lit< tt; number = refl; answer = (λ e. absurd (omega arith), λ e. absurd cc) }, two_periods_are_run),
)

-- acks of member 2, of this member's period with that number, from the relay
abbrev ack : ℕ → Call
ack number =
    Hear (at 3) (record {
      version = One;
      kind = Ack;
      sender = 3;
      initiator = 1;
      target = 2;
      number = number;
      at = None;
    })

-- an ack counts that comes in its period, whoever sent it, and no other
ack_counts : unheard two_members (entry 1 (ack 1) Heard Nothing ∷ first_start ∷ []) ≡ None
ack_counts = refl

ack_of_another_period : unheard two_members (entry 1 (ack 2) (Dropped Stray) Nothing ∷ first_start ∷ []) ≡ Some 2
ack_of_another_period = refl

ack_before_the_start : unheard two_members (first_start ∷ entry 0 (ack 1) (Dropped Stray) Nothing ∷ []) ≡ Some 2
ack_before_the_start = refl

-- an aim that is removed is no aim, also if it joins again
removed_aim : aim (entry 2 (Join 2 (at 2)) (Joined 1) Nothing ∷ entry 1 (Remove 2) Removed Nothing ∷ first_start ∷ []) ≡
    None
removed_aim = refl

rejoined_is_up : row_of two_members
    (entry 2 (Join 2 (at 9)) (Joined 1) Nothing ∷ entry 1 (Remove 2) Removed Nothing ∷ first_start ∷ []) 2 ≡ Some
    (up 2 (at 9))
rejoined_is_up = refl

-- a joiner before the members that are still to be probed is probed next, one among those probed waits
joins_next : lists two_members (entry 1 (Join 4 (at 4)) (Joined 1) Nothing ∷ first_start ∷ []) ≡
    record { probed = 2 ∷ []; rest = 4 ∷ 3 ∷ [] }
joins_next = refl

joins_later : lists two_members (entry 1 (Join 4 (at 4)) (Joined 0) Nothing ∷ first_start ∷ []) ≡
    record { probed = 4 ∷ 2 ∷ []; rest = 3 ∷ [] }
joins_later = refl

-- a request of member 2 for a ping of member 3, which waits for a period of ticks and no longer
abbrev request : ℕ → Entry
request place =
    entry place (Hear (at 2)
    (record { version = One; kind = PingReq; sender = 2; initiator = 2; target = 3; number = 9; at = None }))
    (Send (at 3) (record { version = One; kind = Ping; sender = 1; initiator = 2; target = 3; number = 9; at = None }))
    Nothing

abbrev forwarded : ℕ → Entry
forwarded place =
    entry place (Hear (at 3)
    (record { version = One; kind = Ack; sender = 3; initiator = 2; target = 3; number = 9; at = None }))
    (Send (at 2) (record { version = One; kind = Ack; sender = 1; initiator = 2; target = 3; number = 9; at = None }))
    Nothing

waits : waiting two_members (asking 2 2 1 [] ∷ first_start ∷ request 0 ∷ []) ≡
    record { key = record { initiator = 2; target = 3; number = 9 }; peer = at 2; version = One; left = 1 } ∷ []
waits = refl

expires : waiting two_members (entry 3 Tick Quiet Nothing ∷ asking 2 2 1 [] ∷ first_start ∷ request 0 ∷ []) ≡ []
expires = refl

answered_once : waiting two_members (forwarded 1 ∷ request 0 ∷ []) ≡ []
answered_once = refl

asked_again : length (waiting two_members (request 1 ∷ request 0 ∷ [])) ≡ 1
asked_again = refl

-- the last number is used, and no period begins after it
last_period : period_number (of_members 1 18446744073709551614 (known 2 ∷ []))
    (starting 0 None 2 18446744073709551615 (round (2 ∷ [])) ∷ []) ≡ 18446744073709551615
last_period = refl

refused_when_spent : Continues (of_members 1 18446744073709551615 (known 2 ∷ [])) []
    (entry 0 Tick (Refused Spent) Nothing)
refused_when_spent = record { seat = lit< tt; number = refl; answer = (refl, refl) }
