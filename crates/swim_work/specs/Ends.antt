-- How a worker ends, and a life by its workers; and what they counted.
use Rattle.std.specs.Prelude.{ℕ, ◌+◌, ◌-◌, ◌^◌, Bool, nat_lt, if◌then◌else◌, List, codes, min, Option, Some, None}
use Rattle.swim_work.specs.declared.counts.Counts.{Counts}
use Rattle.swim_work.specs.declared.counts.Why.{Why}
use Rattle.swim_work.specs.declared.counts.Why.TheVariants.{JournalFull, NoMemory, Socket, Stopped}

-- of several reasons the gravest is told
abbrev pub gravity : Why → ℕ
gravity JournalFull = 3
gravity NoMemory = 2
gravity Socket = 1
gravity Stopped = 0

abbrev pub graver : Why → Why → Why
graver one other = if nat_lt (gravity one) (gravity other) then other else one

-- why a life ended: its three workers' reasons, and want of memory where not all of them could be started
abbrev pub why_of : Why → Why → Why → Bool → Why
why_of first second third all_began =
    graver (graver (graver first second) third) (if all_began then Stopped else NoMemory)

-- a reason's words
abbrev pub why_text : Why → List ℕ
why_text JournalFull = codes "journal full"
why_text NoMemory = codes "no memory"
why_text Socket = codes "socket"
why_text Stopped = codes "stopped"

-- two counts together; a count stops at 2^64-1
abbrev pub both : ℕ → ℕ → ℕ
both one other = min (one + other) (2 ^ 64 - 1)

abbrev pub together : Counts → Counts → Counts
together one other = record {
  unsent = both one.unsent other.unsent;
  wire = both one.wire other.wire;
  refused = both one.refused other.refused;
}

-- how many faults of a gate stand in a row with one more; the count stops at 2^32-1
abbrev pub one_fault_more : ℕ → ℕ
one_fault_more row = min (row + 1) (2 ^ 32 - 1)

-- 16 in a row end a worker, and fewer don't
abbrev pub end_at : ℕ → Option Why
end_at row = if nat_lt row 16 then None else Some Socket
