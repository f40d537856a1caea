-- Texts of which something is so, written one behind the other.
use Rattle.std.proofs.Common.{◌≡◌, ℕ, Bool, true, false, List, [], ◌∷◌, ◌++◌, Option, Some, None, IfSome, refl, inl}
use Rattle.std.proofs.Common.{ap, sym, subst, ◌∙◌, append-nil, append_assoc, codes, decimal}
use Rattle.swim_text.specs.Streams.{Puts, appends_none, keeps_self, puts_less, puts_then}
use Rattle.swim_wire.specs.Address.{Address}
use Rattle.swim_wire.specs.Messages.{Message}
use Rattle.swim_script.specs.Texts.{send_text, sends_text}
use Rattle.swim_script.specs.Texts.{reply_text}
use Rattle.swim_detector.specs.Recording.{IsLatest, Recording}
use Rattle.swim_history.specs.declared.calls.Call.{Call}
use Rattle.swim_history.specs.declared.calls.Call.TheVariants.{Hear, Join, Remove, Tick}
use Rattle.swim_history.specs.declared.replies.Reply.{Reply}
use Rattle.swim_script.specs.declared.choosers.Drawer.{Drawer}
use Rattle.swim_script.specs.Outcomes.{latest}
use Rattle.swim_script.proofs.Outcoming.{latest_is}
use Rattle.swim_history.specs.Sends.{sends_of}
use Rattle.swim_history.specs.Setting.{Setting}
use Rattle.swim_history.specs.Texts.{feed}
use Rattle.swimsim.specs.declared.reasons.Reason.{Reason}
use Rattle.swimsim.specs.Reasons.{reason_of}
use Rattle.swimsim.specs.Telling.{AreSent, IsAnswer, IsEnd, IsEntry, IsExact, IsFault, IsNewest, IsReply, IsSent}
use Rattle.swimsim.specs.Telling.{MayHear, MayName, MayStand, PutsSome}

pub nothing_put : (Is : List ℕ → Type 0) (w : Option (List ℕ)) → Is [] → PutsSome Is w w true
nothing_put Is w is = ([], is, appends_none w w (keeps_self w))

-- the first of two texts failed; the second would have been this one
pub first_failed_so : (A C : List ℕ → Type 0) (o n : Option (List ℕ)) (rest : List ℕ) →
    ((a : List ℕ) → A a → C (a ++ rest)) → PutsSome A o n false → PutsSome C o n false
first_failed_so A C o n rest joins p = (p.0 ++ rest, joins p.0 p.1, puts_less o n p.0 rest p.2)

-- the first was written, and the second was or was not
pub both_so : (A B C : List ℕ → Type 0) (o m n : Option (List ℕ)) (done : Bool) →
    ((a b : List ℕ) → A a → B b → C (a ++ b)) → PutsSome A o m true → PutsSome B m n done → PutsSome C o n done
both_so A B C o m n done joins p q = (p.0 ++ q.0, joins p.0 q.0 p.1 q.1, puts_then o m n p.0 q.0 done p.2 q.2)

-- messages that are sent, without words
pub plain_sends : (asked : Bool) (sent : List (Address × Message)) → AreSent asked sent (sends_text sent)
plain_sends asked [] = refl
plain_sends asked (one ∷ others) = (
  send_text one ++ [],
  sends_text others,
  ([], inl refl, refl),
  plain_sends asked others,
  ap (λ (t : List ℕ). t ++ sends_text others) (sym (append-nil (send_text one))),
)

-- ---- the parts of lines

pub ends_plain : (asked : Bool) (reason : Option Reason) → IsEnd asked reason feed
ends_plain asked reason = ([], inl refl, refl)

pub ends_named : (asked : Bool) (reason : Option Reason) (a b : List ℕ) → MayName asked reason a → b ≡ feed →
    IsEnd asked reason (a ++ b)
ends_named asked reason a b named is = (a, named, ap (λ (t : List ℕ). a ++ t) is)

pub sent_worded : (asked : Bool) (one : Address × Message) (a b : List ℕ) → a ≡ send_text one →
    MayStand asked one.1 b → IsSent asked one (a ++ b)
sent_worded asked one a b is words = (b, words, ap (λ (t : List ℕ). t ++ b) is)

pub sent_plain : (asked : Bool) (one : Address × Message) (a : List ℕ) → a ≡ send_text one → IsSent asked one (a ++ [])
sent_plain asked one a is = sent_worded asked one a [] is (inl refl)

-- a reply up to the end of its line
abbrev pub IsHead : Bool → Reply → List ℕ → Type 0
IsHead reasons reply text =
    (end : List ℕ) × IsEnd reasons (reason_of reply) end × (text ≡ reply_text reply ++ end)

pub head_ends : (reasons : Bool) (reply : Reply) (a b : List ℕ) → a ≡ reply_text reply →
    IsEnd reasons (reason_of reply) b → IsHead reasons reply (a ++ b)
head_ends reasons reply a b is end = (b, end, ap (λ (t : List ℕ). t ++ b) is)

pub reply_ends : (datagrams reasons : Bool) (o : Setting) (reply : Reply) (a b : List ℕ) → IsHead reasons reply a →
    AreSent datagrams (sends_of reply o) b → IsReply datagrams reasons o reply (a ++ b)
reply_ends datagrams reasons o reply a b head sent = (
  head.0,
  b,
  head.1,
  sent,
  ap (λ (t : List ℕ). t ++ b) head.2 ∙ append_assoc (reply_text reply) head.0 b,
)

pub reply_plain : (datagrams reasons : Bool) (o : Setting) (reply : Reply) (a : List ℕ) → a ≡ reply_text reply →
    IsReply datagrams reasons o reply (a ++ (feed ++ sends_text (sends_of reply o)))
reply_plain datagrams reasons o reply a is = (
  feed,
  sends_text (sends_of reply o),
  ends_plain reasons (reason_of reply),
  plain_sends datagrams (sends_of reply o),
  ap (λ (t : List ℕ). t ++ (feed ++ sends_text (sends_of reply o))) is,
)

pub fault_ends : (reasons : Bool) (number : ℕ) (reason : Reason) (a b : List ℕ) → a ≡ codes "wire " ++ decimal number →
    IsEnd reasons (Some reason) b → IsFault reasons number reason (a ++ b)
fault_ends reasons number reason a b is end = (b, end, ap (λ (t : List ℕ). t ++ b) is)

pub answer_ends : (datagrams : Bool) (call : Call) (IsRest : List ℕ → Type 0) (a b : List ℕ) →
    MayHear datagrams call a → IsRest b → IsAnswer datagrams call IsRest (a ++ b)
answer_ends datagrams call IsRest a b heard rest = (a, b, heard, rest, refl)

-- what a call that was made is answered, without words
heard_none : (datagrams : Bool) (call : Call) → MayHear datagrams call []
heard_none datagrams (Hear source message) = inl refl
heard_none datagrams Tick = refl
heard_none datagrams (Join id peer) = refl
heard_none datagrams (Remove id) = refl

pub answer_plain : (datagrams : Bool) (call : Call) (IsRest : List ℕ → Type 0) (rest : List ℕ) → IsRest rest →
    IsAnswer datagrams call IsRest rest
answer_plain datagrams call IsRest rest is = ([], rest, heard_none datagrams call, is, refl)

-- the line of an entry, and what follows it
pub entry_ends : (line : List ℕ) (IsRest : List ℕ → Type 0) (a b : List ℕ) → IsExact line a → IsRest b →
    IsEntry line IsRest (a ++ b)
entry_ends line IsRest a b is rest = (b, rest, ap (λ (t : List ℕ). t ++ b) is)

pub exactly : (line : List ℕ) (o n : Option (List ℕ)) (done : Bool) → Puts o n line done →
    PutsSome (IsExact line) o n done
exactly line o n done puts = (line, refl, puts)

-- the newest reply, without words
pub newest_plain : (datagrams reasons : Bool) (recorded : Option (Recording Drawer)) →
    (rest : List ℕ) × IsNewest datagrams reasons recorded rest
newest_plain datagrams reasons None = ([], tt)
newest_plain datagrams reasons (Some a) = (
  reply_text (latest a.past) ++ (feed ++ sends_text (sends_of (latest a.past) a.opening)),
  reply_plain datagrams reasons a.opening (latest a.past) (reply_text (latest a.past)) refl,
)

-- it is that of the recorder
pub newest_is : (datagrams reasons : Bool) (recorded : Option (Recording Drawer)) (o : Setting) (reply : Reply)
    (text : List ℕ) → IfSome recorded (λ a. o ≡ a.opening) →
    IfSome recorded (λ a. IsLatest a.past reply) → IsReply datagrams reasons o reply text →
    IsNewest datagrams reasons recorded text
newest_is datagrams reasons None o reply text opening newest is = tt
newest_is datagrams reasons (Some a) o reply text opening newest is =
    subst (λ (s : Setting). IsReply datagrams reasons s (latest a.past) text) opening
    (subst (λ (r : Reply). IsReply datagrams reasons o r text) (latest_is a.past reply newest) is)
