-- How long a member waits that was judged again soon after it was joined again. Periods go by their numbers.
use Rattle.std.specs.Prelude.{ℕ, ◌+◌, ◌*◌, ◌==◌, Bool, true, false, not, ◌&&◌, nat_lt, nat_le, min, List}
use Rattle.std.specs.Prelude.{Option, Some, None, count_by, if◌then◌else◌}

-- within so many periods of a join that the daemon made by itself
abbrev pub soon : ℕ
soon = 16

-- after so many periods without a verdict a member waits as at first
abbrev pub quiet : ℕ
quiet = 256

-- at most so many knocks
abbrev pub most_times : ℕ
most_times = 64

-- a table shows a verdict, and it isn't the last one that was shown before
abbrev pub is_new : ℕ → Option ℕ → Bool
is_new number None = true
is_new number (Some shown) = not (number == shown)

-- the verdict fell within 16 periods of the last join, and after it
abbrev pub is_soon : ℕ → Option ℕ → Bool
is_soon number None = false
is_soon number (Some joined) = nat_lt joined number && nat_le number (joined + soon)

-- at least 256 whole periods lie between, or there was nothing before
abbrev pub is_long_after : ℕ → Option ℕ → Bool
is_long_after number None = true
is_long_after number (Some period) = nat_lt (period + quiet) number

-- a new verdict: twice as many where it fell soon after the last join; as many as at first where 256 periods passed
-- since that join and since the verdict before
abbrev pub times_after : ℕ → Option ℕ → Option ℕ → ℕ → ℕ
times_after last joined shown number =
    if is_soon number joined then min most_times (2 * last)
    else (if is_long_after number joined && is_long_after number shown then 1 else last)

-- what a table that is looked at makes of it: only a verdict that wasn't shown yet counts
abbrev pub times_once_judged : ℕ → Option ℕ → Option ℕ → Option ℕ → ℕ
times_once_judged last joined shown None = last
times_once_judged last joined shown (Some number) =
    if is_new number shown then times_after last joined shown number else last

-- so many knocks were sent since the verdict, or more
abbrev pub has_waited : ℕ → List ℕ → ℕ → Bool
has_waited times last number = nat_le times (count_by (nat_lt number) last)
