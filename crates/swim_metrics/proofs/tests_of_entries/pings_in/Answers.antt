use Rattle.std.proofs.Common.{map, sym}
use Rattle.swim_history.specs.declared.replies.Relay.{Relay}
use Rattle.swim_metrics.proofs.Sendings.{pings_to_each}
use Rattle.swim_metrics.proofs.tests_of_entries.pings_in.Goals as goal

pub returns-in-Asked : goal.returns-in-Asked
returns-in-Asked c = λ o.
    rw (c.in-Asked.is)
    (sym (pings_to_each o (record { target = c.in-Asked.target; peer = c.in-Asked.peer; number = c.in-Asked.number })
    (map (λ (relay : Relay). relay.peer) c.in-Asked.relays.items)))
