-- To what operators ask of a node, the detector replies so that it can be told.
use Rattle.std.proofs.Common.{◌≡◌, ℕ, List, refl, subst, sym, inl, inr}
use Rattle.swim_wire.specs.Address.{Address}
use Rattle.swim_history.specs.declared.calls.Call.{Call}
use Rattle.swim_history.specs.declared.calls.Call.TheVariants as calls
use Rattle.swim_history.specs.declared.replies.Reply.{Reply}
use Rattle.swim_history.specs.declared.replies.Reply.TheVariants.{Quiet, Started, Asked, Heard, Send, Dropped, Joined}
use Rattle.swim_history.specs.declared.replies.Reply.TheVariants.{Removed, Refused}
use Rattle.swim_history.specs.declared.rows.Change.{Change}
use Rattle.swim_history.specs.declared.entries.Choice.{Choice}
use Rattle.swim_history.specs.declared.entries.Entry.{Entry}
use Rattle.swim_history.specs.Setting.{Setting}
use Rattle.swim_history.specs.Run.{Answers}
use Rattle.swim_node.specs.declared.receipts.CallFault.{CallFault}
use Rattle.swim_node.specs.declared.receipts.CallFault.TheVariants as faults
use Rattle.swim_node.specs.Seats.{Seated}
use Rattle.swim_node.specs.Answered.{kept, refused, IsAnswered, MayRefuse}
use Rattle.swim_control.specs.declared.desks.Answer.{Answer}
use Rattle.swim_node.specs.News.{IsLongerOf}
use Rattle.swim_desk.specs.Desk.{AtDesk, IsTold, Tells, TellsRefusal, Calls}

reply_to_join : (o : Setting) (h : List Entry) (id : ℕ) (peer : Address) (reply : Reply) (choice : Choice) →
    Answers o h (calls.Join id peer) reply choice → IsTold reply
reply_to_join o h id peer Quiet choice is = absurd is
reply_to_join o h id peer (Started judged probe) choice is = absurd is
reply_to_join o h id peer (Asked target at number relays) choice is = absurd is
reply_to_join o h id peer Heard choice is = absurd is
reply_to_join o h id peer (Send to message) choice is = absurd is
reply_to_join o h id peer (Dropped why) choice is = absurd is
reply_to_join o h id peer (Joined place) choice is = tt
reply_to_join o h id peer Removed choice is = tt
reply_to_join o h id peer (Refused why) choice is = tt

reply_to_removal : (o : Setting) (h : List Entry) (id : ℕ) (reply : Reply) (choice : Choice) →
    Answers o h (calls.Remove id) reply choice → IsTold reply
reply_to_removal o h id Quiet choice is = absurd is
reply_to_removal o h id (Started judged probe) choice is = absurd is
reply_to_removal o h id (Asked target peer number relays) choice is = absurd is
reply_to_removal o h id Heard choice is = absurd is
reply_to_removal o h id (Send to message) choice is = absurd is
reply_to_removal o h id (Dropped why) choice is = absurd is
reply_to_removal o h id (Joined place) choice is = tt
reply_to_removal o h id Removed choice is = tt
reply_to_removal o h id (Refused why) choice is = tt

-- a join that was answered
pub join_is_told : (o : Setting) (old new : Seated) (id : ℕ) (peer : Address) (position number : ℕ) (call : Call)
    (reply : Reply) (news : List Change)
    → IsAnswered o old new (calls.Join id peer) (kept position number call reply) news → IsTold reply
join_is_told o old new id peer position number call reply news is =
    reply_to_join o is.run.before id peer reply is.run.choice
    (subst (λ c. Answers o is.run.before c reply is.run.choice) is.asked is.run.run.0.answer)

-- a removal that was answered
pub removal_is_told : (o : Setting) (old new : Seated) (id : ℕ) (position number : ℕ) (call : Call) (reply : Reply)
    (news : List Change)
    → IsAnswered o old new (calls.Remove id) (kept position number call reply) news → IsTold reply
removal_is_told o old new id position number call reply news is =
    reply_to_removal o is.run.before id reply is.run.choice
    (subst (λ c. Answers o is.run.before c reply is.run.choice) is.asked is.run.run.0.answer)

-- a call whose answer was told, and whose news was learnt
pub is_called : (o : Setting) (limit : ℕ) (old new : AtDesk) (seat : Seated) (asked : Call) (position number : ℕ)
    (call : Call) (reply : Reply) (news : List Change) (answer : Answer)
    → IsAnswered o old.seat seat asked (kept position number call reply) news → new.seat ≡ seat →
    new.refused ≡ old.refused → Tells reply answer → IsLongerOf old.seen news new.seen
    → Calls o limit old asked answer new
is_called o limit old new seat asked position number call reply news answer is same as_many told learnt = inl (record {
  kept = kept position number call reply;
  news = news;
  answered = subst (λ s. IsAnswered o old.seat s asked (kept position number call reply) news) (sym same) is;
  told = told;
  learnt = learnt;
  refused = as_many;
})

-- a call that was refused
pub is_refused : (o : Setting) (limit : ℕ) (old new : AtDesk) (seat : Seated) (count : ℕ) (asked : Call)
    (fault : CallFault) (answer : Answer)
    → MayRefuse o limit old.seat fault → seat ≡ refused fault old.seat →
    new ≡ record old { seat = seat; refused = count } → TellsRefusal fault answer old.refused count
    → Calls o limit old asked answer new
is_refused o limit old new seat count asked (faults.Wire f) answer may is same tells = absurd may
is_refused o limit old new seat count asked faults.JournalFull answer may is same tells =
    inr (rw (tells.0, same, is, tells.1) (may, refl))
is_refused o limit old new seat count asked faults.NoMemory answer may is same tells =
    inr (rw (tells.0, same, is, tells.1) (may, refl))
