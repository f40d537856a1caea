-- Where serving has come, of a reader whose bytes are known, or are not.
use Rattle.std.proofs.Common.{◌≡◌, ◌⊎◌, ℕ, Bool, true, false, List, Option, Some, None, refl, sym, ap, subst, ◌∙◌, inl}
use Rattle.std.proofs.Common.{inr}
use Rattle.std.specs.Io.KnownBytes.{Keeps}
use Rattle.std.proofs.lemmas.Option.{same_Some}
use Rattle.swim_text.specs.ShortLines.{ComesKnown}
use Rattle.swim_text.specs.Streams.{keeps_self}
use Rattle.swim_text.specs.declared.short_lines.LineEnd.TheVariants as lines
use Rattle.swim_control.specs.declared.desks.DeskCommand.{DeskCommand}
use Rattle.swim_control.specs.declared.faults.Fault.TheVariants.{LongLine, Unended}
use Rattle.swim_control.specs.declared.serving.Served.{Served}
use Rattle.swim_control.specs.declared.serving.Served.TheVariants as ends
use Rattle.swim_control.specs.Commands.{said_by, line_said}
use Rattle.swim_control.specs.Desks.{Told}
use Rattle.swim_control.specs.Texts.{fault_text}
use Rattle.swim_control.specs.Serving.{CourseKnown, IsServedKnown, AreSpent, ReadsFail, end_at}
use Rattle.swim_control.specs.Turns.{closed, Turned, IsLast}
use Rattle.swim_control.proofs.Courses.{at_start, next}
use Rattle.swim_control.proofs.CourseEnds.{ends_over, ends_unread, ends_turn, ends_long, ends_unended, spends_all}
use Rattle.swim_control.proofs.CourseEnds.{end_of_line}

pub start_known : {S : Type 0} (asks : S → DeskCommand → Told → S → Type 0) (text : Option (List ℕ)) (first : S)
    (written : Option (List ℕ)) → CourseKnown asks text text first first written written 1048576
start_known asks None first written = tt
start_known asks (Some text) first written = at_start asks text first written

-- after one more line
pub next_known : {S : Type 0} (asks : S → DeskCommand → Told → S → Type 0) (text rest left : Option (List ℕ))
    (line : List ℕ) (first now after : S) (old mid mid' new : Option (List ℕ)) (reads still : ℕ) →
    CourseKnown asks text rest first now old mid reads → ComesKnown rest left lines.Feed line 128 reads still →
    Keeps mid mid' → Turned asks (said_by (line_said line)) now after mid' new None →
    CourseKnown asks text left first after old new still
next_known asks None rest left line first now after old mid mid' new reads still c i kept turned = tt
next_known asks (Some text) None left line first now after old mid mid' new reads still c i kept turned = absurd c
next_known asks (Some text) (Some rest) None line first now after old mid mid' new reads still c i kept turned =
    absurd i
next_known asks (Some text) (Some rest) (Some left) line first now after old mid mid' new reads still c i kept turned =
    next asks text rest left line first now after old mid mid' new reads still c i kept turned

-- a line that ends serving
pub turn_known : {S : Type 0} (asks : S → DeskCommand → Told → S → Type 0) (text rest left : Option (List ℕ))
    (line : List ℕ) (first now after : S) (old mid mid' sent new : Option (List ℕ)) (reads still : ℕ)
    (end result : Served) →
    CourseKnown asks text rest first now old mid reads → ComesKnown rest left lines.Feed line 128 reads still →
    Keeps mid mid' → Turned asks (said_by (line_said line)) now after mid' sent (Some end) →
    (result ≡ end) ⊎ (result ≡ ends.WriteFault) → Keeps sent new →
    IsServedKnown asks text left first after old new result
turn_known asks None rest left line first now after old mid mid' sent new reads still end result c i kept turned which
    sent-on = tt
turn_known asks (Some text) None left line first now after old mid mid' sent new reads still end result c i kept turned
    which sent-on = absurd c
turn_known asks (Some text) (Some rest) None line first now after old mid mid' sent new reads still end result c i kept
    turned which sent-on = absurd i
turn_known asks (Some text) (Some rest) (Some left) line first now after old mid mid' sent new reads still end result c
    i kept turned which sent-on =
    ends_turn asks text rest left line first now after old mid mid' sent new reads still end result c i kept turned
    which sent-on

-- a line that is too long
pub long_known : {S : Type 0} (asks : S → DeskCommand → Told → S → Type 0) (text rest left : Option (List ℕ))
    (line : List ℕ) (first now : S) (old mid mid' new : Option (List ℕ)) (reads still : ℕ) (result : Served) →
    CourseKnown asks text rest first now old mid reads → ComesKnown rest left lines.Long line 128 reads still →
    Keeps mid mid' → IsLast mid' new (fault_text LongLine) ends.TooLong result →
    IsServedKnown asks text left first now old new result
long_known asks None rest left line first now old mid mid' new reads still result c i kept put = tt
long_known asks (Some text) None left line first now old mid mid' new reads still result c i kept put = absurd c
long_known asks (Some text) (Some rest) None line first now old mid mid' new reads still result c i kept put = absurd i
long_known asks (Some text) (Some rest) (Some left) line first now old mid mid' new reads still result c i kept put =
    ends_long asks text rest left i.0 first now old mid mid' new reads still result c i.1 i.2 kept put

-- a line without its line feed
pub unended_known : {S : Type 0} (asks : S → DeskCommand → Told → S → Type 0) (text rest left : Option (List ℕ))
    (line : List ℕ) (first now : S) (old mid mid' new : Option (List ℕ)) (reads still : ℕ) (result : Served) →
    CourseKnown asks text rest first now old mid reads → ComesKnown rest left lines.Unended line 128 reads still →
    Keeps mid mid' → IsLast mid' new (fault_text Unended) ends.Unended result →
    IsServedKnown asks text left first now old new result
unended_known asks None rest left line first now old mid mid' new reads still result c i kept put = tt
unended_known asks (Some text) None left line first now old mid mid' new reads still result c i kept put = absurd c
unended_known asks (Some text) (Some rest) None line first now old mid mid' new reads still result c i kept put =
    absurd i
unended_known asks (Some text) (Some rest) (Some left) line first now old mid mid' new reads still result c i kept put =
    ends_unended asks text rest left line first now old mid mid' new reads still result c i.0 i.1 i.2 kept put

-- the end of the input between two lines
pub over_known : {S : Type 0} (asks : S → DeskCommand → Told → S → Type 0) (text rest left : Option (List ℕ))
    (line : List ℕ) (first now : S) (old mid mid' new : Option (List ℕ)) (reads still : ℕ) (result : Served) →
    CourseKnown asks text rest first now old mid reads → ComesKnown rest left lines.Over line 128 reads still →
    Keeps mid mid' → Keeps mid' new → (result ≡ ends.Ended) ⊎ (result ≡ ends.WriteFault) →
    IsServedKnown asks text left first now old new result
over_known asks None rest left line first now old mid mid' new reads still result c i kept sent-on which = tt
over_known asks (Some text) None left line first now old mid mid' new reads still result c i kept sent-on which =
    absurd c
over_known asks (Some text) (Some rest) None line first now old mid mid' new reads still result c i kept sent-on which =
    absurd i
over_known asks (Some text) (Some rest) (Some left) line first now old mid mid' new reads still result c i kept sent-on
    which = ends_over asks text rest left first now old mid mid' new reads still result c i.0 i.1 i.2 kept sent-on which

-- no read is left
pub spent_known : {S : Type 0} (asks : S → DeskCommand → Told → S → Type 0) (text rest left : Option (List ℕ))
    (line : List ℕ) (first now : S) (old mid mid' new : Option (List ℕ)) (reads still : ℕ) (result : Served) →
    CourseKnown asks text rest first now old mid reads → ComesKnown rest left lines.Spent line 128 reads still →
    Keeps mid mid' → Keeps mid' new → (result ≡ ends.ReadFault) ⊎ (result ≡ ends.WriteFault) →
    IsServedKnown asks text left first now old new result
spent_known asks None rest left line first now old mid mid' new reads still result c i kept sent-on which = tt
spent_known asks (Some text) None left line first now old mid mid' new reads still result c i kept sent-on which =
    absurd c
spent_known asks (Some text) (Some rest) None line first now old mid mid' new reads still result c i kept sent-on
    which = absurd i
spent_known asks (Some text) (Some rest) (Some left) line first now old mid mid' new reads still result c i kept sent-on
    which = ends_unread asks text rest left line first now old mid mid' new reads 0 result c i.0 kept sent-on which

-- then as many bytes were read as there are reads
pub are_spent : {S : Type 0} (asks : S → DeskCommand → Told → S → Type 0) (text rest left : Option (List ℕ))
    (line : List ℕ) (first now : S) (old mid : Option (List ℕ)) (reads still : ℕ) →
    CourseKnown asks text rest first now old mid reads → ComesKnown rest left lines.Spent line 128 reads still →
    AreSpent text left
are_spent asks None rest left line first now old mid reads still c i = tt
are_spent asks (Some text) None left line first now old mid reads still c i = absurd c
are_spent asks (Some text) (Some rest) None line first now old mid reads still c i = absurd i
are_spent asks (Some text) (Some rest) (Some left) line first now old mid reads still c i =
    spends_all asks text rest left line first now old mid reads c i.0

-- a read failed
pub failed_known : {S : Type 0} (asks : S → DeskCommand → Told → S → Type 0) (text rest left : Option (List ℕ))
    (line : List ℕ) (first now : S) (old mid new : Option (List ℕ)) (reads still : ℕ) →
    CourseKnown asks text rest first now old mid reads → ComesKnown rest left lines.Failed line 128 reads still →
    Keeps mid new → IsServedKnown asks text left first now old new ends.ReadFault
failed_known asks None rest left line first now old mid new reads still c i kept = tt
failed_known asks (Some text) None left line first now old mid new reads still c i kept = absurd c
failed_known asks (Some text) (Some rest) None line first now old mid new reads still c i kept = absurd i
failed_known asks (Some text) (Some rest) (Some left) line first now old mid new reads still c i kept =
    ends_unread asks text rest left line first now old mid new new reads still ends.ReadFault c i kept (keeps_self new)
    (inl refl)

-- what was written could not be handed on
pub unsent_known : {S : Type 0} (asks : S → DeskCommand → Told → S → Type 0) (text rest left : Option (List ℕ))
    (line : List ℕ) (first now : S) (old mid new : Option (List ℕ)) (reads still : ℕ) →
    CourseKnown asks text rest first now old mid reads → ComesKnown rest left lines.Unsent line 128 reads still →
    Keeps mid new → IsServedKnown asks text left first now old new ends.WriteFault
unsent_known asks None rest left line first now old mid new reads still c i kept = tt
unsent_known asks (Some text) None left line first now old mid new reads still c i kept = absurd c
unsent_known asks (Some text) (Some rest) None line first now old mid new reads still c i kept = absurd i
unsent_known asks (Some text) (Some rest) (Some left) line first now old mid new reads still c i kept =
    ends_unread asks text rest left line first now old mid new new reads still ends.WriteFault c i kept (keeps_self new)
    (inr refl)

-- ---- the reader's failures

-- at an end that isn't the reader's no read has failed
abbrev pub is_read_fault : Served → Bool
is_read_fault ends.ReadFault = true
is_read_fault end = false

pub no_read_failed : (end : Served) (old new : Option (List ℕ)) (before after : ℕ) → is_read_fault end ≡ false →
    after ≡ before → ReadsFail end old new before after
no_read_failed ends.Ended old new before after other same = same
no_read_failed ends.Unended old new before after other same = same
no_read_failed ends.TooLong old new before after other same = same
no_read_failed ends.Stopped old new before after other same = same
no_read_failed ends.JournalFull old new before after other same = same
no_read_failed ends.WriteFault old new before after other same = same
no_read_failed ends.ReadFault old new before after other same = absurd (cc other)

-- nor where a write failed in its place
pub no_read_failed_or : (end result : Served) (old new : Option (List ℕ)) (before after : ℕ) →
    is_read_fault end ≡ false → (result ≡ end) ⊎ (result ≡ ends.WriteFault) → after ≡ before →
    ReadsFail result old new before after
no_read_failed_or end result old new before after other (inl e) same =
    no_read_failed result old new before after (ap is_read_fault e ∙ other) same
no_read_failed_or end result old new before after other (inr e) same =
    no_read_failed result old new before after (ap is_read_fault e) same

pub no_read_failed_last : (end result : Served) (old new put sent : Option (List ℕ)) (text : List ℕ)
    (before after : ℕ) → is_read_fault end ≡ false → IsLast put sent text end result → after ≡ before →
    ReadsFail result old new before after
no_read_failed_last end result old new put sent text before after other (inl e) same =
    no_read_failed result old new before after (ap is_read_fault e.0 ∙ other) same
no_read_failed_last end result old new put sent text before after other (inr e) same =
    no_read_failed result old new before after (ap is_read_fault e.0) same

-- where the reads are spent
pub spent_reads : (result : Served) (old new : Option (List ℕ)) (before after : ℕ) →
    (result ≡ ends.ReadFault) ⊎ (result ≡ ends.WriteFault) → after ≡ before → AreSpent old new →
    ReadsFail result old new before after
spent_reads result old new before after (inl e) same spent =
    subst (λ (r : Served). ReadsFail r old new before after) (sym e) (inr (same, spent))
spent_reads result old new before after (inr e) same spent =
    no_read_failed result old new before after (ap is_read_fault e) same

-- a line's turn doesn't end so
pub turn_ends : {S : Type 0} (asks : S → DeskCommand → Told → S → Type 0) (line : List ℕ) (now after : S)
    (old new : Option (List ℕ)) (end : Served) → Turned asks (said_by (line_said line)) now after old new (Some end) →
    is_read_fault end ≡ false
turn_ends asks line now after old new end turned = by turned.done turned.is where
  by : (done : Bool) → Some end ≡ closed done (end_at (said_by (line_said line)) turned.told) →
      is_read_fault end ≡ false
  by false is = ap is_read_fault (same_Some end ends.WriteFault is)
  by true is = elim (end_of_line (line_said line) turned.told end (sym is))
      [ inl stopped ↦ ap is_read_fault stopped | inr full ↦ ap is_read_fault full ]
