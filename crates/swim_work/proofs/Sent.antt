-- What a caller sent, call by call.
use Rattle.std.proofs.Common.{◌≡◌, ℕ, ◌+◌, List, [], ◌∷◌, ◌++◌, Option, Result, Ok, Err, not, map, count_by, cond}
use Rattle.std.proofs.Common.{refl, sym, ap, ◌∙◌, subst, arith, append-nil}
use Rattle.std.proofs.lemmas.List.{map-append}
use Rattle.std.specs.Prelude.{IfErr}
use Rattle.std.proofs.lemmas.List.Sums.{sum_by-append}
use Rattle.std.proofs.lemmas.Grind.{flat_map-append}
use Rattle.swim_wire.specs.Address.{Address}
use Rattle.swim_wire.specs.Messages.{Message}
use Rattle.swim_history.specs.declared.replies.Reply.{Reply}
use Rattle.swim_history.specs.declared.seats.Kept.{Kept}
use Rattle.swim_history.specs.Sends.{sends_of}
use Rattle.swim_history.specs.Setting.{Setting}
use Rattle.swim_trail.specs.Growing.{grows_both}
use Rattle.swim_node.specs.declared.receipts.CallFault.{CallFault}
use Rattle.swim_node.specs.declared.receipts.CallFault.TheVariants as faults
use Rattle.swim_node.specs.declared.receipts.Receipt.{Receipt}
use Rattle.swim_node.specs.Answered.{refused}
use Rattle.swim_node.specs.Seats.{Seated}
use Rattle.swim_work.specs.declared.counts.Counts.{Counts}
use Rattle.swim_work.specs.declared.counts.Why.{Why}
use Rattle.swim_work.specs.Ends.{both}
use Rattle.swim_work.specs.Finished.{IsFinished}
use Rattle.swim_work.specs.Posts.{Posted, ArePosted, handed, datagram, HasSent, messages_of}
use Rattle.swim_work.proofs.Posting.{none_posted}

-- some messages, and then others
pub are_both : (xs ys : List (Address × Message)) (a b c : Option (List Posted)) (m n : ℕ) →
    ArePosted xs a b m → ArePosted ys b c n → ArePosted (xs ++ ys) a c (m + n)
are_both xs ys a b c m n p q = record {
  posted = p.posted ++ q.posted;
  grows = grows_both a b c p.posted q.posted p.grows q.grows;
  each = map-append handed p.posted q.posted
      ∙ (ap (λ l. l ++ map handed q.posted) p.each ∙
      (ap (λ l. map datagram xs ++ l) q.each ∙ sym (map-append datagram xs ys)));
  unsent =
      let s = sum_by-append (λ (r : Posted). cond (not r.is_taken) 1 0) p.posted q.posted in
      ap (λ k. k + n) p.unsent ∙ (ap (λ k. count_by (λ (r : Posted). not r.is_taken) p.posted + k) q.unsent ∙ sym s);
}

pub none_sent : (o : Setting) (calls : List Kept) (post : Option (List Posted)) → calls ≡ [] →
    HasSent o calls post post 0
none_sent o calls post none = rw none (record { count = 0; posted = none_posted post; counted = omega arith })

-- a call more, the messages of whose reply were handed over
one_more_sent : (o : Setting) (calls more : List Kept) (k : Kept) (reply : Reply)
    (start before after : Option (List Posted)) (u n v : ℕ) →
    HasSent o calls start before u → more ≡ calls ++ k ∷ [] → k.reply ≡ reply →
    ArePosted (sends_of reply o) before after n →
    v ≡ both u n → HasSent o more start after v
one_more_sent o calls more k reply start before after u n v are grown is sent counted =
    let all : messages_of o (calls ++ k ∷ []) ≡ messages_of o calls ++ sends_of reply o =
    flat_map-append (λ (x : Kept). sends_of x.reply o) calls (k ∷ [])
    ∙ ap (λ l. messages_of o calls ++ l) (append-nil (sends_of k.reply o) ∙ ap (λ r. sends_of r o) is) in
    rw grown (record {
      count = are.count + n;
      posted =
          rw all (are_both (messages_of o calls) (sends_of reply o) start before after are.count n are.posted sent);
      counted = omega (arith, are.counted, counted);
    })

-- no call more
still : {O : Type 0} (posted : O → Option (List Posted)) (o : Setting) (old new : Seated)
    (start : Option (List Posted)) (post after : O) (counts next : Counts) →
    HasSent o old.calls start (posted post) counts.unsent → new.calls ≡ old.calls → after ≡ post →
    next.unsent ≡ counts.unsent →
    HasSent o new.calls start (posted after) next.unsent
still posted o old new start post after counts next are seat same count = rw (seat, same, count) are

-- what was sent, after the answer to a call was dealt with
pub finished_sent : {O : Type 0} {N : Type 0} (posted : O → Option (List Posted)) (o opening : Setting)
    (old new : Seated) (answer : Result (Receipt N) CallFault) (post after : O) (counts next : Counts)
    (end : Option Why) → opening ≡ o →
    ((r : Receipt N) → answer ≡ Ok r → (k : Kept) × (new.calls ≡ old.calls ++ k ∷ []) × (k.reply ≡ r.reply)) →
    IfErr answer (λ fault. new ≡ refused fault old) →
    IsFinished posted answer (λ r. sends_of r.reply opening) post counts end after next →
    (start : Option (List Posted)) → HasSent o old.calls start (posted post) counts.unsent →
    HasSent o new.calls start (posted after) next.unsent
finished_sent posted o opening old new (Ok r) post after counts next end is ok err done start are =
    let k = ok r refl in
    one_more_sent o old.calls new.calls k.0 r.reply start (posted post) (posted after) counts.unsent done.1.0
    next.unsent are k.1 k.2
    (subst (λ s. ArePosted (sends_of r.reply s) (posted post) (posted after) done.1.0) is done.1.1)
    (ap (λ (c : Counts). c.unsent) done.1.2)
finished_sent posted o opening old new (Err (faults.Wire f)) post after counts next end is ok err done start are =
    still posted o old new start post after counts next are (ap (λ (s : Seated). s.calls) err) done.1
    (ap (λ (c : Counts). c.unsent) done.2)
finished_sent posted o opening old new (Err faults.NoMemory) post after counts next end is ok err done start are =
    still posted o old new start post after counts next are (ap (λ (s : Seated). s.calls) err) done.1
    (ap (λ (c : Counts). c.unsent) done.2)
finished_sent posted o opening old new (Err faults.JournalFull) post after counts next end is ok err done start are =
    still posted o old new start post after counts next are (ap (λ (s : Seated). s.calls) err) done.1
    (ap (λ (c : Counts). c.unsent) done.2)
