-- What became of a call, once its answer was dealt with.
use Rattle.std.proofs.Common.{◌≡◌, ℕ, List, Option, Result, Ok, Err, refl, sym, subst, ap, inl, inr}
use Rattle.std.specs.Prelude.{IfOk, IfErr}
use Rattle.swim_wire.specs.Address.{Address}
use Rattle.swim_wire.specs.Messages.{Message}
use Rattle.swim_wire.specs.Layout.{IsTextOf}
use Rattle.swim_history.specs.declared.calls.Call.{Call}
use Rattle.swim_history.specs.declared.calls.Call.TheVariants.{Hear, Join, Tick}
use Rattle.swim_history.specs.declared.rows.Row.{Row}
use Rattle.swim_history.specs.Setting.{Setting}
use Rattle.swim_node.specs.declared.receipts.CallFault.{CallFault}
use Rattle.swim_node.specs.declared.receipts.CallFault.TheVariants as faults
use Rattle.swim_node.specs.declared.receipts.Receipt.{Receipt}
use Rattle.swim_node.specs.Answered.{kept, refused, IsAnswered, MayRefuse, MayRefuseBytes}
use Rattle.swim_node.specs.Seats.{Seated}
use Rattle.swim_work.specs.declared.counts.Counts.{Counts}
use Rattle.swim_work.specs.declared.counts.Why.{Why}
use Rattle.swim_work.specs.Answers.{has_joined, message_by, message_in}
use Rattle.swim_work.specs.Calling.{IsMessage, IsRefused, Hears, Joins, Ticks}
use Rattle.swim_work.specs.Finished.{AreSent, IsFinished}
use Rattle.swim_work.specs.Posts.{Posted, at_sender}

pub refused_so : {O N : Type 0} (posted : O → Option (List Posted)) (messages : Receipt N → List (Address × Message))
    (old new : Seated)
    (fault : CallFault) (post after : O) (counts next : Counts) (end : Option Why) →
    new ≡ refused fault old →
    IsFinished posted (Err fault) messages post counts end after next →
    IsRefused fault (at_sender old post counts) end (at_sender new after next)
refused_so posted messages old new (faults.Wire f) post after counts next end seat done =
    record { same = rw (seat, done.1, done.2) refl; ends = done.0 }
refused_so posted messages old new faults.NoMemory post after counts next end seat done =
    record { same = rw (seat, done.1, done.2) refl; ends = done.0 }
refused_so posted messages old new faults.JournalFull post after counts next end seat done =
    record { same = rw (seat, done.1, done.2) refl; ends = done.0 }

-- only what couldn't be sent was counted
pub count_kept : {O : Type 0} (posted : O → Option (List Posted)) (messages : List (Address × Message)) (post after : O)
    (counts next : Counts) →
    AreSent messages (posted post) (posted after) counts next → next ≡ record counts { unsent = next.unsent }
count_kept posted messages post after counts next sent =
    subst (λ (c : Counts). c ≡ record counts { unsent = c.unsent }) (sym sent.2) refl

pub heard_so : {O N : Type 0} (posted : O → Option (List Posted)) (messages : Receipt N → List (Address × Message))
    (o : Setting)
    (limit : ℕ) (bytes : List ℕ) (source : Address) (old new : Seated) (answer : Result (Receipt N) CallFault)
    (post after : O)
    (counts next : Counts) (end : Option Why) →
    IfOk answer (λ r. (m : Message) × IsTextOf bytes m
    × IsAnswered o old new (Hear source m) (kept r.position r.number r.call r.reply) r.news) →
    IfErr answer (λ fault. new ≡ refused fault old) → IfErr answer (MayRefuseBytes bytes o limit old) →
    IsFinished posted answer messages post counts end after next →
    Hears o limit bytes source (at_sender old post counts) end (at_sender new after next)
heard_so posted messages o limit bytes source old new (Ok r) post after counts next end ok err refuses done =
    inl (
      Hear source ok.0,
      (ok.0, ok.1, refl),
      record {
        kept = kept r.position r.number r.call r.reply;
        news = r.news;
        answered = ok.2;
        counted = count_kept posted (messages r) post after counts next done.1;
        goes_on = done.0;
      },
    )
heard_so posted messages o limit bytes source old new (Err f) post after counts next end ok err refuses done =
    inr (f, refuses, refused_so posted messages old new f post after counts next end err done)

-- the message that was heard
pub message_so : {O N : Type 0} (posted : O → Option (List Posted)) (messages : Receipt N → List (Address × Message))
    (o : Setting)
    (bytes : List ℕ) (source : Address) (old new : Seated) (answer : Result (Receipt N) CallFault)
    (post after : O)
    (counts next : Counts) (end : Option Why) →
    IfOk answer (λ r. (m : Message) × IsTextOf bytes m
    × IsAnswered o old new (Hear source m) (kept r.position r.number r.call r.reply) r.news) →
    IfErr answer (λ fault. new ≡ refused fault old) → IsFinished posted answer messages post counts end after next →
    IsMessage o bytes source (at_sender old post counts) end (at_sender new after next) (message_in answer)
message_so posted messages o bytes source old new (Ok r) post after counts next end ok err done =
    subst (λ (c : Call). IsMessage o bytes source (at_sender old post counts) end (at_sender new after next)
    (message_by c)) (sym ok.2.asked) (
      ok.1,
      record {
        kept = kept r.position r.number r.call r.reply;
        news = r.news;
        answered = ok.2;
        counted = count_kept posted (messages r) post after counts next done.1;
        goes_on = done.0;
      },
    )
message_so posted messages o bytes source old new (Err f) post after counts next end ok err done =
    ap (λ (s : Seated). s.calls) err

-- a member was joined
pub joined_so : {O N : Type 0} (posted : O → Option (List Posted)) (messages : Receipt N → List (Address × Message))
    (o : Setting)
    (limit : ℕ) (row : Row) (old new : Seated) (answer : Result (Receipt N) CallFault) (post after : O)
    (counts next : Counts) (end : Option Why) →
    IfOk answer (λ r. IsAnswered o old new (Join row.id row.peer) (kept r.position r.number r.call r.reply) r.news) →
    IfErr answer (λ fault. new ≡ refused fault old) → IfErr answer (MayRefuse o limit old) →
    IsFinished posted answer messages post counts end after next →
    Joins o limit row (at_sender old post counts) end (at_sender new after next) (has_joined answer)
joined_so posted messages o limit row old new (Ok r) post after counts next end ok err refuses done =
    inl (
      record {
        kept = kept r.position r.number r.call r.reply;
        news = r.news;
        answered = ok;
        counted = count_kept posted (messages r) post after counts next done.1;
        goes_on = done.0;
      },
      refl,
    )
joined_so posted messages o limit row old new (Err f) post after counts next end ok err refuses done =
    inr (f, refuses, refused_so posted messages old new f post after counts next end err done, refl)

pub ticked_so : {O N : Type 0} (posted : O → Option (List Posted)) (messages : Receipt N → List (Address × Message))
    (o : Setting)
    (limit : ℕ) (old new : Seated) (answer : Result (Receipt N) CallFault) (post after : O)
    (counts next : Counts) (end : Option Why) →
    IfOk answer (λ r. IsAnswered o old new Tick (kept r.position r.number r.call r.reply) r.news) →
    IfErr answer (λ fault. new ≡ refused fault old) → IfErr answer (MayRefuse o limit old) →
    IsFinished posted answer messages post counts end after next →
    Ticks o limit (at_sender old post counts) end (at_sender new after next)
ticked_so posted messages o limit old new (Ok r) post after counts next end ok err refuses done =
    inl (
      Tick,
      refl,
      record {
        kept = kept r.position r.number r.call r.reply;
        news = r.news;
        answered = ok;
        counted = count_kept posted (messages r) post after counts next done.1;
        goes_on = done.0;
      },
    )
ticked_so posted messages o limit old new (Err f) post after counts next end ok err refuses done =
    inr (f, refuses, refused_so posted messages old new f post after counts next end err done)
