-- Who ends for a full journal has a seat that knows of it.
use Rattle.std.proofs.Common.{◌≡◌, ◌<◌, List, Option, Some, Result, Ok, Err, arith}
use Rattle.std.specs.Prelude.{IfErr}
use Rattle.swim_wire.specs.Address.{Address}
use Rattle.swim_wire.specs.Messages.{Message}
use Rattle.swim_node.specs.declared.receipts.CallFault.{CallFault}
use Rattle.swim_node.specs.declared.receipts.CallFault.TheVariants as faults
use Rattle.swim_node.specs.declared.receipts.Receipt.{Receipt}
use Rattle.swim_node.specs.Answered.{refused}
use Rattle.swim_node.specs.Seats.{Seated}
use Rattle.swim_work.specs.declared.counts.Counts.{Counts}
use Rattle.swim_work.specs.declared.counts.Why.{Why}
use Rattle.swim_work.specs.declared.counts.Why.TheVariants.{JournalFull}
use Rattle.swim_work.specs.Finished.{IsFinished}
use Rattle.swim_work.specs.Posts.{Posted}

pub finished_full : {O N : Type 0} (posted : O → Option (List Posted)) (messages : Receipt N → List (Address × Message))
    (old new : Seated)
    (answer : Result (Receipt N) CallFault) (post after : O) (counts next : Counts) (end : Option Why) →
    IfErr answer (λ fault. new ≡ refused fault old) → IsFinished posted answer messages post counts end after next →
    end ≡ Some JournalFull → 0 < new.full
finished_full posted messages old new (Ok receipt) post after counts next end err done ends = absurd (cc (done.0, ends))
finished_full posted messages old new (Err (faults.Wire f)) post after counts next end err done ends =
    absurd (cc (done.0, ends))
finished_full posted messages old new (Err faults.NoMemory) post after counts next end err done ends =
    absurd (cc (done.0, ends))
finished_full posted messages old new (Err faults.JournalFull) post after counts next end err done ends =
    rw err (omega arith)
