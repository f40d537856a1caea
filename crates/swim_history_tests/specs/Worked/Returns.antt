-- Worked runs in which a member with a gap leaves, and comes back.
use Rattle.std.specs.Prelude.{◌≡◌, true, List, [], ◌∷◌, Some, None, refl}
use Rattle.std.proofs.Common.{lit<, arith}
use Rattle.std.proofs.lemmas.List.Sorted.{IsPermutation-refl}
use Rattle.std.specs.List.{list_any}
use Rattle.swim_history.specs.declared.calls.Call.TheVariants.{Join, Remove}
use Rattle.swim_history.specs.declared.replies.Reply.TheVariants.{Joined, Removed}
use Rattle.swim_history.specs.declared.entries.Choice.TheVariants.{Nothing}
use Rattle.swim_history.specs.declared.entries.Entry.{Entry}
use Rattle.swim_history.specs.Run.{IsRun}
use Rattle.swim_history.specs.Gap.{unlists, IsGap}
use Rattle.swim_history_tests.specs.Worked.Histories.{at, entry, round, starting, asking, first_start}
use Rattle.swim_history_tests.specs.Worked.Gaps.{quiet, acked, acked_is_run, no_relays}
use Rattle.swim_history_tests.specs.Worked.Gaps.{four_periods, four_periods_are_run}

-- ---- removed

-- after four periods the first member is removed, as the aim, and joins again; two more periods probe both
abbrev pub leaving : Entry
leaving = entry 13 (Remove 2) Removed Nothing

abbrev pub returning : Entry
returning = entry 14 (Join 2 (at 2)) (Joined 0) Nothing

abbrev fifth_start : Entry
fifth_start = starting 17 None 2 5 (round (2 ∷ 3 ∷ []))

abbrev sixth_start : Entry
sixth_start = starting 21 None 3 6 Nothing

abbrev to_fifth : List Entry
to_fifth = fifth_start ∷ quiet 16 ∷ quiet 15 ∷ returning ∷ leaving ∷ four_periods

abbrev pub returned : List Entry
returned = sixth_start ∷ acked 18 2 5 to_fifth

returning_is_run : IsRun no_relays (returning ∷ leaving ∷ four_periods)
returning_is_run = (
  record {
    seat = lit< tt;
    number = refl;
    answer =
        (λ e. absurd (omega arith), refl, λ e f. absurd (omega arith), omega arith);
  },
  (
    record { seat = lit< tt; number = refl; answer = (λ e. absurd (omega arith), λ e. absurd cc) },
    four_periods_are_run,
  ),
)

-- nobody is asked for, as the aim is gone
aimless_is_run : IsRun no_relays (quiet 16 ∷ quiet 15 ∷ returning ∷ leaving ∷ four_periods)
aimless_is_run = (
  record { seat = lit< tt; number = refl; answer = (λ e. absurd cc, λ e. refl) },
  (record { seat = lit< tt; number = refl; answer = (λ e. absurd cc, λ e. refl) }, returning_is_run),
)

fifth_is_run : IsRun no_relays to_fifth
fifth_is_run = (
  record {
    seat = lit< tt;
    number = refl;
    answer =
        record {
          begins = refl;
          unspent = lit< tt;
          judges = refl;
          draws =
              (refl, λ e. absurd cc, IsPermutation-refl _);
          probes = (at 2, refl, refl);
        };
  },
  aimless_is_run,
)

pub returned_is_run : IsRun no_relays returned
returned_is_run = (
  record {
    seat = lit< tt;
    number = refl;
    answer =
        record { begins = refl; unspent = lit< tt; judges = refl; draws = λ e. absurd cc; probes = (at 3, refl, refl) };
  },
  acked_is_run no_relays 18 2 5 to_fifth refl refl refl refl (λ e. absurd cc) (λ e. absurd cc) refl refl fifth_is_run,
)

-- between its last two probes it wasn't listed all the time
not_listed_between : list_any (unlists 2) (quiet 16 ∷ quiet 15 ∷ returning ∷ leaving ∷ []) ≡ true
not_listed_between = refl

-- for the other it counts as one that joined
gap_with_returner : IsGap no_relays returned 3 3 6 3
gap_with_returner = record {
  newer = [];
  second = sixth_start;
  between = acked 18 2 5
      (fifth_start ∷ quiet 16 ∷ quiet 15 ∷ returning ∷ leaving ∷ starting 12 None 2 4 Nothing ∷ acked 9 3 3 []);
  first = starting 8 None 3 3 (round (3 ∷ 2 ∷ []));
  before = acked 5 3 2 (starting 4 None 3 2 Nothing ∷ acked 1 2 1 (first_start ∷ []));
  split = refl;
  from = record { target = 3; peer = at 3; number = 3 };
  to = record { target = 3; peer = at 3; number = 6 };
  probed = refl;
  again = refl;
  members = (refl, refl);
  numbers = (refl, refl);
  none_between = refl;
  stays = refl;
  count = refl;
}

-- ---- judged

-- after four periods the first member is judged, as no ack of it comes, and joins again
abbrev judging_start : Entry
judging_start = starting 15 (Some 2) 3 5 (round (3 ∷ []))

abbrev pub judged_returning : Entry
judged_returning = entry 16 (Join 2 (at 2)) (Joined 1) Nothing

abbrev back_start : Entry
back_start = starting 20 None 2 6 Nothing

abbrev to_judged : List Entry
to_judged = judged_returning ∷ judging_start ∷ quiet 14 ∷ asking 13 2 4 [] ∷ four_periods

abbrev pub judged_and_back : List Entry
judged_and_back = back_start ∷ acked 17 3 5 to_judged

silent_is_run : IsRun no_relays (quiet 14 ∷ asking 13 2 4 [] ∷ four_periods)
silent_is_run = (
  record { seat = lit< tt; number = refl; answer = (λ e. absurd cc, λ e. absurd cc) },
  (
    record {
      seat = lit< tt;
      number = refl;
      answer =
          (refl, refl, refl, record { count = refl; once = refl; each = tt }, refl);
    },
    four_periods_are_run,
  ),
)

judged_is_run : IsRun no_relays to_judged
judged_is_run = (
  record {
    seat = lit< tt;
    number = refl;
    answer =
        (λ e. absurd (omega arith), refl, λ e f. absurd (omega arith), omega arith);
  },
  (
    record {
      seat = lit< tt;
      number = refl;
      answer =
          record {
            begins = refl;
            unspent = lit< tt;
            judges = refl;
            draws =
                (refl, λ e. absurd cc, IsPermutation-refl _);
            probes = (at 3, refl, refl);
          };
    },
    silent_is_run,
  ),
)

pub judged_and_back_is_run : IsRun no_relays judged_and_back
judged_and_back_is_run = (
  record {
    seat = lit< tt;
    number = refl;
    answer =
        record { begins = refl; unspent = lit< tt; judges = refl; draws = λ e. absurd cc; probes = (at 2, refl, refl) };
  },
  acked_is_run no_relays 17 3 5 to_judged refl refl refl refl (λ e. absurd cc)
      (λ e. absurd cc) refl refl judged_is_run,
)
