-- A worked run that goes on from another: a member that failed stays so, and numbers go on.
use Rattle.std.specs.Prelude.{◌≡◌, [], ◌∷◌, None, refl}
use Rattle.std.proofs.Common.{lit<}
use Rattle.std.proofs.lemmas.List.Sorted.{IsPermutation-refl}
use Rattle.swim_history.specs.declared.rows.Row.{Row}
use Rattle.swim_history.specs.declared.rows.RowState.TheVariants.{Failed}
use Rattle.swim_history.specs.declared.calls.Call.TheVariants.{Remove}
use Rattle.swim_history.specs.declared.replies.Reply.TheVariants.{Removed}
use Rattle.swim_history.specs.declared.entries.Choice.TheVariants.{Nothing}
use Rattle.swim_history.specs.declared.entries.Entry.{Entry}
use Rattle.swim_history.specs.Setting.{Setting}
use Rattle.swim_history.specs.Round.{lists}
use Rattle.swim_history.specs.Changes.{table}
use Rattle.swim_history.specs.Run.{Continues}
use Rattle.swim_history.specs.After.{setting_after, numbers}
use Rattle.swim_history_tests.specs.Worked.Histories.{at, known, of_members, entry, round, starting, asking}
use Rattle.swim_history_tests.specs.Worked.Histories.{two_members, two_periods}

-- member 2 was judged in the second period
abbrev fallen : Row
fallen = record { id = 2; peer = at 2; state = Failed 1 }

abbrev later : Setting
later = of_members 1 2 (fallen ∷ known 3 ∷ [])

two_periods_after : setting_after two_members two_periods ≡ later
two_periods_after = refl

two_periods_numbers : numbers two_members two_periods ≡ 2 ∷ 1 ∷ []
two_periods_numbers = refl

-- who failed is in no round
later_lists : lists later [] ≡ record { probed = 3 ∷ []; rest = [] }
later_lists = refl

-- the next period has the next number, and nobody can be asked in it
abbrev third_start : Entry
third_start = starting 0 None 3 3 (round (3 ∷ []))

goes_on : Continues later [] third_start
goes_on = record {
  seat = lit< tt;
  number = refl;
  answer =
      record {
        begins = refl;
        unspent = lit< tt;
        judges = refl;
        draws = (refl, λ e. absurd cc, IsPermutation-refl _);
        probes = (at 3, refl, refl);
      };
}

asks_nobody : Continues later (third_start ∷ []) (asking 1 3 3 [])
asks_nobody = record {
  seat = lit< tt;
  number = refl;
  answer = (refl, refl, refl, record { count = refl; once = refl; each = tt }, refl);
}

-- who failed can be removed
removed_then : table later (entry 0 (Remove 2) Removed Nothing ∷ []) ≡ known 3 ∷ []
removed_then = refl
