-- The requests by the counts of ticks at which they are due.
use Rattle.std.specs.Prelude.{ℕ, ◌+◌, ◌-◌, ◌%◌, ◌^◌, ◌<◌, List, map}
use Rattle.std.specs.List.{AllByRecursion}
use Rattle.swim_wire.specs.Requests.{Request}
use Rattle.swim_relays.specs.Waiting.{AreWaiting}
use Rattle.swim_relays.specs.declared.waiting.DueRequest.{DueRequest}

-- the ticks from one count to another: the difference modulo 2^32
abbrev pub ticks_to : ℕ → ℕ → ℕ
ticks_to count due = (due + 2 ^ 32 - count) % 2 ^ 32

-- what an entry is at that count
abbrev pub request_at : ℕ → DueRequest → Request
request_at count entry =
    record { key = entry.key; peer = entry.peer; version = entry.version; left = ticks_to count entry.due }

abbrev pub requests_at : ℕ → List DueRequest → List Request
requests_at count entries = map (request_at count) entries

-- the entries are requests that may wait at that count
pub record AreKept (period count : ℕ) (entries : List DueRequest) : Type 0 where
  pub waiting : AreWaiting (record { period = period; count = count; waiting = requests_at count entries })
  pub due : AllByRecursion (λ entry. entry.due < 2 ^ 32) entries
