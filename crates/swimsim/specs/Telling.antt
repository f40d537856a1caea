-- What is written with words between the answers. Words are left out where there was no memory for them.
use Rattle.std.specs.Prelude.{◌≡◌, ◌≢◌, ◌⊎◌, ℕ, Bool, true, false, List, [], ◌∷◌, ◌++◌, Option, Some, None, codes}
use Rattle.std.specs.Prelude.{decimal}
use Rattle.swim_wire.specs.Address.{Address}
use Rattle.swim_wire.specs.Layout.{fault_number}
use Rattle.swim_wire.specs.Messages.{Message}
use Rattle.swim_history.specs.declared.calls.Call.{Call}
use Rattle.swim_history.specs.declared.calls.Call.TheVariants.{Hear}
use Rattle.swim_history.specs.declared.replies.Reply.{Reply}
use Rattle.swim_history.specs.Sends.{sends_of}
use Rattle.swim_history.specs.Setting.{Setting}
use Rattle.swim_history.specs.Texts.{feed}
use Rattle.swim_detector.specs.Recording.{Recording}
use Rattle.swim_script.specs.declared.choosers.Drawer.{Drawer}
use Rattle.swim_script.specs.declared.outcomes.LineOutcome.{LineOutcome}
use Rattle.swim_script.specs.declared.outcomes.LineOutcome.TheVariants.{Made, Full, NoMemory, Unread, Table, Gap}
use Rattle.swim_script.specs.Outcomes.{latest, outcome_text}
use Rattle.swim_script.specs.Texts.{reply_text, send_text}
use Rattle.swim_text.specs.Streams.{Puts, one_more}
use Rattle.swimsim.specs.declared.reasons.Reason.{Reason}
use Rattle.swimsim.specs.declared.reasons.Reason.TheVariants.{Wire}
use Rattle.swim_verdicts.specs.Meanings.{message_words}
use Rattle.swimsim.specs.Reasons.{reason_of}

-- a text of which this is so was written, or where a write failed a front of it
abbrev pub PutsSome : (List ℕ → Type 0) → Option (List ℕ) → Option (List ℕ) → Bool → Type 0
PutsSome IsText old new whole = (text : List ℕ) × IsText text × Puts old new text whole

-- nothing, or where words are asked for, the words of a message
abbrev pub MayStand : Bool → Message → List ℕ → Type 0
MayStand asked message text = (text ≡ []) ⊎ ((asked ≡ true) × (text ≡ message_words message))

-- the same of the message that a call heard
abbrev pub MayHear : Bool → Call → List ℕ → Type 0
MayHear asked (Hear source message) text = MayStand asked message text
MayHear asked call text = text ≡ []

-- nothing, or where there is a reason and words are asked for, its name; which text that is isn't said
abbrev pub MayName : Bool → Option Reason → List ℕ → Type 0
MayName asked reason text = (text ≡ []) ⊎ ((asked ≡ true) × (reason ≢ None))

-- the end of a line
abbrev pub IsEnd : Bool → Option Reason → List ℕ → Type 0
IsEnd asked reason text = (name : List ℕ) × MayName asked reason name × (text ≡ name ++ feed)

-- a message that is sent, with its words below
abbrev pub IsSent : Bool → Address × Message → List ℕ → Type 0
IsSent asked one text = (words : List ℕ) × MayStand asked one.1 words × (text ≡ send_text one ++ words)

abbrev pub AreSent : Bool → List (Address × Message) → List ℕ → Type 0
AreSent asked [] text = text ≡ []
AreSent asked (one ∷ others) text =
    (first : List ℕ) × (rest : List ℕ) × IsSent asked one first × AreSent asked others rest × (text ≡ first ++ rest)

-- the lines of a reply
abbrev pub IsReply : Bool → Bool → Setting → Reply → List ℕ → Type 0
IsReply datagrams reasons o reply text =
    (end : List ℕ) × (sent : List ℕ) × IsEnd reasons (reason_of reply) end × AreSent datagrams (sends_of reply o) sent
    × (text ≡ reply_text reply ++ (end ++ sent))

-- those of the newest one; nothing is said before the first event line, as there is none
abbrev pub IsNewest : Bool → Bool → Option (Recording Drawer) → List ℕ → Type 0
IsNewest datagrams reasons None text = Unit {0}
IsNewest datagrams reasons (Some a) text = IsReply datagrams reasons a.opening (latest a.past) text

-- the line of bytes that are no datagram
abbrev pub IsFault : Bool → ℕ → Reason → List ℕ → Type 0
IsFault reasons number reason text =
    (end : List ℕ) × IsEnd reasons (Some reason) end × (text ≡ (codes "wire " ++ decimal number) ++ end)

-- what a call was answered, behind the words of the message that it heard, if it did
abbrev pub IsAnswer : Bool → Call → (List ℕ → Type 0) → List ℕ → Type 0
IsAnswer datagrams call IsRest text =
    (heard : List ℕ) × (rest : List ℕ) × MayHear datagrams call heard × IsRest rest × (text ≡ heard ++ rest)

abbrev pub IsExact : List ℕ → List ℕ → Type 0
IsExact answer text = text ≡ answer

-- the line with the number of an entry, which is how many were made before it, where numbers are asked for
abbrev pub number_line : Bool → ℕ → List ℕ
number_line true number = codes "# entry " ++ (decimal number ++ codes "\n")
number_line false number = []

-- that line, and what its entry was answered
abbrev pub IsEntry : List ℕ → (List ℕ → Type 0) → List ℕ → Type 0
IsEntry line IsRest text = (rest : List ℕ) × IsRest rest × (text ≡ line ++ rest)

-- how many entries were made, after a line of which this came
abbrev pub entries_with : LineOutcome → ℕ → ℕ
entries_with (Made call) entries = one_more entries
entries_with (Full call) entries = entries
entries_with (NoMemory call) entries = entries
entries_with (Unread fault) entries = entries
entries_with Table entries = entries
entries_with (Gap member) entries = entries

-- what is written for what came of a line: its answer, with words where they are asked for, and of a call that was made
-- below the line of its entry
abbrev pub IsWorded : List ℕ → Bool → Bool → Option (Recording Drawer) → LineOutcome → List ℕ → Type 0
IsWorded line datagrams reasons recorded (Made call) text =
    IsEntry line (IsAnswer datagrams call (IsNewest datagrams reasons recorded)) text
IsWorded line datagrams reasons recorded (Full call) text =
    IsAnswer datagrams call (IsExact (outcome_text recorded (Full call))) text
IsWorded line datagrams reasons recorded (NoMemory call) text =
    IsAnswer datagrams call (IsExact (outcome_text recorded (NoMemory call))) text
IsWorded line datagrams reasons recorded (Unread fault) text = IsFault reasons (fault_number fault) (Wire fault) text
IsWorded line datagrams reasons recorded Table text = IsExact (outcome_text recorded Table) text
IsWorded line datagrams reasons recorded (Gap member) text = IsExact (outcome_text recorded (Gap member)) text
