-- Worked runs with gaps: members whose acks are heard in each period.
use Rattle.std.specs.Prelude.{IsPermutation, ◌≡◌, ◌≢◌, ℕ, ◌+◌, true, List, [], ◌∷◌, length, filter, Some, None, refl}
use Rattle.std.proofs.Common.{lit<, arith}
use Rattle.std.proofs.lemmas.List.Sorted.{IsPermutation-refl, IsPermutation-swap}
use Rattle.std.specs.List.{list_any}
use Rattle.swim_history.specs.declared.calls.Call.TheVariants.{Tick, Hear, Join, Remove}
use Rattle.swim_history.specs.declared.replies.Reply.TheVariants.{Quiet, Heard, Joined, Removed}
use Rattle.swim_history.specs.declared.entries.Choice.TheVariants.{Nothing}
use Rattle.swim_history.specs.declared.entries.Entry.{Entry}
use Rattle.swim_wire.specs.declared.messages.Kind.TheVariants.{Ack}
use Rattle.swim_wire.specs.declared.messages.Version.TheVariants.{One}
use Rattle.swim_history.specs.Setting.{Setting}
use Rattle.swim_history.specs.Events.{is_start}
use Rattle.swim_history.specs.Clock.{period_number, phase}
use Rattle.swim_history.specs.Aim.{aim, unheard}
use Rattle.swim_history.specs.Run.{calls_of, IsRun}
use Rattle.swim_history.specs.Gap.{probes_member, unlists, IsGap, IsStretch}
use Rattle.swim_history_tests.specs.Worked.Histories.{at, known, of_members, entry, round, starting, first_start}

-- the entries of a period after its start: the aim's ack, then two quiet ticks
abbrev pub heard : ℕ → ℕ → ℕ → Entry
heard place target number =
    entry place
    (Hear (at target)
    (record { version = One; kind = Ack; sender = target; initiator = 1; target = target; number = number; at = None }))
    Heard Nothing

abbrev pub quiet : ℕ → Entry
quiet place = entry place Tick Quiet Nothing

abbrev pub acked : ℕ → ℕ → ℕ → List Entry → List Entry
acked place target number before = quiet (place + 2) ∷ quiet (place + 1) ∷ heard place target number ∷ before

pub acked_is_run : (o : Setting) (place target number : ℕ) (before : List Entry) → o.me ≡ 1 →
    place ≡ calls_of 0 before → aim before ≡ Some target → number ≡ period_number o before
    → phase o before ≢ 0 → phase o (quiet (place + 1) ∷ heard place target number ∷ before) ≢ 0
    → unheard o (heard place target number ∷ before) ≡ None →
    unheard o (quiet (place + 1) ∷ heard place target number ∷ before) ≡ None → IsRun o before →
    IsRun o (acked place target number before)
acked_is_run o place target number before me calls aimed now first second none still run = (
  record { seat = lit< tt; number = omega (arith, calls); answer = (second, λ e. still) },
  (
    record { seat = lit< tt; number = omega (arith, calls); answer = (first, λ e. none) },
    (record { seat = lit< tt; number = calls; answer = (rw me refl, aimed, now) }, run),
  ),
)

swapped : IsPermutation {X = ℕ} (2 ∷ 3 ∷ []) (3 ∷ 2 ∷ [])
swapped = IsPermutation-swap _ _ 0 1 (lit< tt) (lit< tt) refl

-- four periods of two members without relays
abbrev pub no_relays : Setting
no_relays = of_members 0 0 (known 2 ∷ known 3 ∷ [])

abbrev second_start : Entry
second_start = starting 4 None 3 2 Nothing

abbrev third_start : Entry
third_start = starting 8 None 3 3 (round (3 ∷ 2 ∷ []))

abbrev fourth_start : Entry
fourth_start = starting 12 None 2 4 Nothing

abbrev to_second : List Entry
to_second = second_start ∷ acked 1 2 1 (first_start ∷ [])

abbrev to_third : List Entry
to_third = third_start ∷ acked 5 3 2 to_second

abbrev pub four_periods : List Entry
four_periods = fourth_start ∷ acked 9 3 3 to_third

first_is_run : IsRun no_relays (first_start ∷ [])
first_is_run = (
  record {
    seat = lit< tt;
    number = refl;
    answer =
        record {
          begins = refl;
          unspent = lit< tt;
          judges = refl;
          draws =
              (refl, λ e. absurd cc, IsPermutation-refl _);
          probes = (at 2, refl, refl);
        };
  },
  tt,
)

second_is_run : IsRun no_relays to_second
second_is_run = (
  record {
    seat = lit< tt;
    number = refl;
    answer =
        record { begins = refl; unspent = lit< tt; judges = refl; draws = λ e. absurd cc; probes = (at 3, refl, refl) };
  },
  acked_is_run no_relays 1 2 1 (first_start ∷ []) refl refl refl refl (λ e. absurd cc)
      (λ e. absurd cc) refl refl first_is_run,
)

third_is_run : IsRun no_relays to_third
third_is_run = (
  record {
    seat = lit< tt;
    number = refl;
    answer =
        record {
          begins = refl;
          unspent = lit< tt;
          judges = refl;
          draws = (refl, λ e. absurd cc, swapped);
          probes =
              (at 3, refl, refl);
        };
  },
  acked_is_run no_relays 5 3 2 to_second refl refl refl refl (λ e. absurd cc)
      (λ e. absurd cc) refl refl second_is_run,
)

pub four_periods_are_run : IsRun no_relays four_periods
four_periods_are_run = (
  record {
    seat = lit< tt;
    number = refl;
    answer =
        record { begins = refl; unspent = lit< tt; judges = refl; draws = λ e. absurd cc; probes = (at 2, refl, refl) };
  },
  acked_is_run no_relays 9 3 3 to_third refl refl refl refl (λ e. absurd cc) (λ e. absurd cc) refl refl third_is_run,
)

-- the first member's probes are three periods apart, and two members are listed
widest_of_two : IsGap no_relays four_periods 2 1 4 2
widest_of_two = record {
  newer = [];
  second = fourth_start;
  between = acked 9 3 3 (third_start ∷ acked 5 3 2 (second_start ∷ acked 1 2 1 []));
  first = first_start;
  before = [];
  split = refl;
  from = record { target = 2; peer = at 2; number = 1 };
  to = record { target = 2; peer = at 2; number = 4 };
  probed = refl;
  again = refl;
  members = (refl, refl);
  numbers = (refl, refl);
  none_between = refl;
  stays = refl;
  count = refl;
}

-- the other is probed in two successive periods
narrow_gap : IsGap no_relays four_periods 3 2 3 2
narrow_gap = record {
  newer = fourth_start ∷ acked 9 3 3 [];
  second = third_start;
  between = acked 5 3 2 [];
  first = second_start;
  before = acked 1 2 1 (first_start ∷ []);
  split = refl;
  from = record { target = 3; peer = at 3; number = 2 };
  to = record { target = 3; peer = at 3; number = 3 };
  probed = refl;
  again = refl;
  members = (refl, refl);
  numbers = (refl, refl);
  none_between = refl;
  stays = refl;
  count = refl;
}

-- the first member waits three starts for its next probe, as long as it may where two are listed
abbrev three_starts : List Entry
three_starts = fourth_start ∷ acked 9 3 3 (third_start ∷ acked 5 3 2 (second_start ∷ []))

in_time : IsStretch no_relays four_periods 2 2 three_starts
in_time = record {
  newer = [];
  before = acked 1 2 1 (first_start ∷ []);
  split = refl;
  listed_at_first = refl;
  stays =
      refl;
  count = refl;
}

third_start_probes : (length (filter is_start three_starts) ≡ 3) × (list_any (probes_member 2) three_starts ≡ true)
third_start_probes = (refl, refl)

-- a third member joins in the first period, so that it is probed next
abbrev pub joiner : Entry
joiner = entry 4 (Join 4 (at 4)) (Joined 1) Nothing

abbrev joiner_start : Entry
joiner_start = starting 5 None 4 2 Nothing

abbrev later_start : Entry
later_start = starting 9 None 3 3 Nothing

abbrev pub next_round : Entry
next_round = starting 13 None 2 4 (round (2 ∷ 4 ∷ 3 ∷ []))

abbrev to_joiner : List Entry
to_joiner = joiner_start ∷ joiner ∷ acked 1 2 1 (first_start ∷ [])

abbrev to_later : List Entry
to_later = later_start ∷ acked 6 4 2 to_joiner

abbrev pub joined : List Entry
joined = next_round ∷ acked 10 3 3 to_later

joiner_is_run : IsRun no_relays to_joiner
joiner_is_run = (
  record {
    seat = lit< tt;
    number = refl;
    answer =
        record { begins = refl; unspent = lit< tt; judges = refl; draws = λ e. absurd cc; probes = (at 4, refl, refl) };
  },
  (
    record {
      seat = lit< tt;
      number = refl;
      answer =
          (λ e. absurd (omega arith), refl, λ e f. absurd (omega arith), omega arith);
    },
    acked_is_run no_relays 1 2 1
        (first_start ∷ []) refl refl refl refl (λ e. absurd cc) (λ e. absurd cc) refl refl first_is_run,
  ),
)

later_is_run : IsRun no_relays to_later
later_is_run = (
  record {
    seat = lit< tt;
    number = refl;
    answer =
        record { begins = refl; unspent = lit< tt; judges = refl; draws = λ e. absurd cc; probes = (at 3, refl, refl) };
  },
  acked_is_run no_relays 6 4 2 to_joiner refl refl refl refl (λ e. absurd cc)
      (λ e. absurd cc) refl refl joiner_is_run,
)

pub joined_is_run : IsRun no_relays joined
joined_is_run = (
  record {
    seat = lit< tt;
    number = refl;
    answer =
        record {
          begins = refl;
          unspent = lit< tt;
          judges = refl;
          draws =
              (refl, λ e. absurd cc, IsPermutation-refl _);
          probes = (at 2, refl, refl);
        };
  },
  acked_is_run no_relays 10 3 3 to_later refl refl refl refl (λ e. absurd cc) (λ e. absurd cc) refl refl later_is_run,
)

-- two members were listed just after the first probe, and one joined
gap_with_joiner : IsGap no_relays joined 2 1 4 3
gap_with_joiner = record {
  newer = [];
  second = next_round;
  between = acked 10 3 3 (later_start ∷ acked 6 4 2 (joiner_start ∷ joiner ∷ acked 1 2 1 []));
  first = first_start;
  before = [];
  split = refl;
  from = record { target = 2; peer = at 2; number = 1 };
  to = record { target = 2; peer = at 2; number = 4 };
  probed = refl;
  again = refl;
  members = (refl, refl);
  numbers = (refl, refl);
  none_between = refl;
  stays = refl;
  count = refl;
}

-- the first member is removed in the second period, and joins again
abbrev pub removal : Entry
removal = entry 5 (Remove 2) Removed Nothing

abbrev pub rejoiner : Entry
rejoiner = entry 6 (Join 2 (at 2)) (Joined 0) Nothing

abbrev rejoined_start : Entry
rejoined_start = starting 10 None 2 3 (round (2 ∷ 3 ∷ []))

abbrev last_start : Entry
last_start = starting 14 None 3 4 Nothing

abbrev to_rejoined : List Entry
to_rejoined = rejoined_start ∷ acked 7 3 2 (rejoiner ∷ removal ∷ to_second)

abbrev pub rejoined : List Entry
rejoined = last_start ∷ acked 11 2 3 to_rejoined

rejoiner_is_run : IsRun no_relays (rejoiner ∷ removal ∷ to_second)
rejoiner_is_run = (
  record {
    seat = lit< tt;
    number = refl;
    answer =
        (λ e. absurd (omega arith), refl, λ e f. absurd (omega arith), omega arith);
  },
  (record { seat = lit< tt; number = refl; answer = (λ e. absurd (omega arith), λ e. absurd cc) }, second_is_run),
)

rejoined_start_is_run : IsRun no_relays to_rejoined
rejoined_start_is_run = (
  record {
    seat = lit< tt;
    number = refl;
    answer =
        record {
          begins = refl;
          unspent = lit< tt;
          judges = refl;
          draws =
              (refl, λ e. absurd cc, IsPermutation-refl _);
          probes = (at 2, refl, refl);
        };
  },
  acked_is_run no_relays 7 3 2
      (rejoiner ∷ removal ∷ to_second) refl refl refl refl (λ e. absurd cc) (λ e. absurd cc) refl refl rejoiner_is_run,
)

pub rejoined_is_run : IsRun no_relays rejoined
rejoined_is_run = (
  record {
    seat = lit< tt;
    number = refl;
    answer =
        record { begins = refl; unspent = lit< tt; judges = refl; draws = λ e. absurd cc; probes = (at 3, refl, refl) };
  },
  acked_is_run no_relays 11 2 3 to_rejoined refl refl refl refl (λ e. absurd cc)
      (λ e. absurd cc) refl refl rejoined_start_is_run,
)

-- between its probes it wasn't listed all the time
not_all_the_time : list_any (unlists 2) (acked 7 3 2 (rejoiner ∷ removal ∷ second_start ∷ acked 1 2 1 [])) ≡ true
not_all_the_time = refl

-- for the other it counts as one that joined
gap_of_other : IsGap no_relays rejoined 3 2 4 3
gap_of_other = record {
  newer = [];
  second = last_start;
  between = acked 11 2 3 (rejoined_start ∷ acked 7 3 2 (rejoiner ∷ removal ∷ []));
  first = second_start;
  before = acked 1 2 1 (first_start ∷ []);
  split = refl;
  from = record { target = 3; peer = at 3; number = 2 };
  to = record { target = 3; peer = at 3; number = 4 };
  probed = refl;
  again = refl;
  members = (refl, refl);
  numbers = (refl, refl);
  none_between = refl;
  stays = refl;
  count = refl;
}
