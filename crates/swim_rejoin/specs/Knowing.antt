-- What is kept of a member.
use Rattle.std.specs.Prelude.{ℕ, ◌==◌, List, [], ◌∷◌, zero, suc, take, find, Option, Some, None, replicate}
use Rattle.std.specs.Option.{option_map, option_or}
use Rattle.swim_history.specs.Rows.{row_at}
use Rattle.swim_history.specs.declared.rows.Row.{Row}
use Rattle.swim_rejoin.specs.Failed.{verdict_of}
use Rattle.swim_rejoin.specs.Histories.{Event, knocks_at, last_joined, last_verdict, most_knocks, table_in, times}
use Rattle.swim_rejoin.specs.Waits.{times_once_judged}
use Rattle.swim_rejoin.specs.declared.knocks.Knocks.{Knocks}
use Rattle.swim_rejoin.specs.declared.known.Known.{Known}

-- so many of the numbers, with zeros behind them where there are fewer: no period has the number 0
abbrev pub padded : ℕ → List ℕ → List ℕ
padded zero numbers = []
padded (suc room) [] = 0 ∷ padded room []
padded (suc room) (number ∷ numbers) = number ∷ padded room numbers

-- the last knocks, as they are kept
abbrev pub kept_knocks : List ℕ → Knocks
kept_knocks numbers = record { numbers = padded most_knocks numbers }

-- a member that a table shows for the first time
abbrev pub first_known : Row → Known
first_known row = record {
  row = row;
  knocks = record { numbers = replicate most_knocks 0 };
  joined = None;
  shown = verdict_of row.state;
  times = 1;
}

-- a member that a table shows again
abbrev pub known_again : Row → Known → Known
known_again row known = record {
  row = row;
  knocks = known.knocks;
  joined = known.joined;
  shown = option_or (verdict_of row.state) known.shown;
  times = times_once_judged known.times known.joined known.shown (verdict_of row.state);
}

-- it was knocked at with that number
abbrev pub after_knock : ℕ → Known → Known
after_knock number known = record known { knocks = record { numbers = number ∷ take 63 known.knocks.numbers } }

-- it was joined again in that period
abbrev pub after_join : ℕ → Known → Known
after_join period known = record known { joined = Some period }

-- what is kept of a member, by what is kept of all
abbrev pub known_at : List Known → ℕ → Option Known
known_at knowns id = find (λ known. known.row.id == id) knowns

-- what is kept of a member once a table shows it with that row, by what was kept of it, if anything was
abbrev pub known_now : Row → Option Known → Known
known_now row None = first_known row
known_now row (Some known) = known_again row known

abbrev pub known_once_looked : List Known → Row → Known
known_once_looked knowns row = known_now row (known_at knowns row.id)

-- and by the history
abbrev pub known_as : List Event → Row → Known
known_as h row = record {
  row = row;
  knocks = kept_knocks (knocks_at row.id h);
  joined = last_joined row.id h;
  shown = last_verdict row.id h;
  times = times row.id h;
}

abbrev pub known_by : List Event → ℕ → Option Known
known_by h id = option_map (known_as h) (row_at (table_in h) id)
