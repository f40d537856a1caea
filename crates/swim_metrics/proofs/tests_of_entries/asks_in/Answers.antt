use Rattle.std.proofs.Common.{sym}
use Rattle.swim_metrics.proofs.Sendings.{asks_to_each}
use Rattle.swim_metrics.proofs.tests_of_entries.asks_in.Goals as goal

pub returns-in-Asked : goal.returns-in-Asked
returns-in-Asked c = λ o.
    rw (c.in-Asked.is, c.asked_relays.ensures, c.as_slice.ensures.value)
    (sym (asks_to_each o (record { target = c.in-Asked.target; peer = c.in-Asked.peer; number = c.in-Asked.number })
    c.in-Asked.relays.items))
