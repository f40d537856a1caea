-- How serving ends, from where it has come.
use Rattle.std.proofs.Common.{◌≡◌, ℕ, ◌+◌, ◌<◌, Bool, true, false, List, [], ◌∷◌, ◌++◌, length, Option, Some, Result}
use Rattle.std.proofs.Common.{Ok, Err, refl, sym, ap, subst, ◌∙◌, ◌⊎◌, inl, inr, arith, append-nil}
use Rattle.std.specs.Io.KnownBytes.{Keeps, Appends}
use Rattle.std.proofs.lemmas.Option.{same_Some}
use Rattle.std.proofs.lemmas.List.{append_assoc, length-append}
use Rattle.swim_text.specs.ShortLines.{IsTaken}
use Rattle.swim_text.specs.Streams.{Puts, PutsFront, appends_both, kept_appends, appends_kept}
use Rattle.swim_control.specs.declared.desks.Answer.TheVariants as answers
use Rattle.swim_control.specs.declared.desks.DeskCommand.{DeskCommand}
use Rattle.swim_control.specs.declared.commands.Said.{Said}
use Rattle.swim_control.specs.declared.commands.Said.TheVariants.{Stop, Asks}
use Rattle.swim_control.specs.declared.faults.WordFault.{WordFault}
use Rattle.swim_control.specs.declared.faults.Fault.{Fault}
use Rattle.swim_control.specs.declared.faults.Fault.TheVariants.{LongLine, Unended}
use Rattle.swim_control.specs.declared.serving.Served.{Served}
use Rattle.swim_control.specs.declared.serving.Served.TheVariants as ends
use Rattle.swim_control.specs.Commands.{said, said_by, line_said}
use Rattle.swim_control.specs.Desks.{Told, Shows, Measures, Answers, Counts, Reloads}
use Rattle.swim_control.specs.Texts.{fault_text}
use Rattle.swim_control.specs.Serving.{Course, lines_of, line_text, output_of, end_at, GoesOn, EndsWith, AreCutOff}
use Rattle.swim_control.specs.Serving.{NewestHas, IsPart, IsServed, Ends}
use Rattle.swim_control.specs.Turns.{closed, Asked, Turned, IsLast}
use Rattle.swim_control.proofs.Courses.{whole_line, IsOneLine, said_unended, said_long, one_unended, lines_more}
use Rattle.swim_control.proofs.Courses.{added_to, line_added, whole_more, Added}

-- a text was written, or a front of it
front_of : (old new : Option (List ℕ)) (text : List ℕ) (done : Bool) → Puts old new text done → PutsFront old new text
front_of old new text true put = record { front = text; unput = []; cut = sym (append-nil text); grows = put }
front_of old new text false put = put

-- what was written of the answers before is a front of all of them
cut_before : (lines : List (List ℕ)) (told : List Told) (old new : Option (List ℕ)) → GoesOn lines told →
    Appends old new (output_of lines told) → AreCutOff lines told old new
cut_before [] told old new goes written = written
cut_before (line ∷ before) told old new goes written = record {
  goes_on = goes.1;
  front = line_text (said line) told;
  unput = [];
  answer = sym (append-nil (line_text (said line) told));
  written = written;
}

empty_part : IsPart []
empty_part = (refl, omega arith)

-- the end of the input, where a line would begin
pub ends_over : {S : Type 0} (asks : S → DeskCommand → Told → S → Type 0) (text rest left : List ℕ) (first now : S)
    (old mid mid' new : Option (List ℕ)) (reads still : ℕ) (result : Served) →
    Course asks text rest first now old mid reads → rest ≡ [] → left ≡ [] → still + 1 ≡ reads → Keeps mid mid' →
    Keeps mid' new → (result ≡ ends.Ended) ⊎ (result ≡ ends.WriteFault) →
    IsServed asks text left first now old new result
ends_over asks text rest left first now old mid mid' new reads still result c all none spent kept sent which = record {
  read = c.read;
  part = [];
  whole = c.whole ∙ ap (λ (l : List ℕ). c.read ++ l) (all ∙ sym none);
  within = omega (arith, c.spent, ap length (append-nil c.read));
  told = c.told;
  run = c.run;
  ends = elim which [
    | inl over ↦ subst so (sym over) (c.goes_on, refl, none, omega (arith, c.spent, spent), written)
    | inr fault ↦ subst so (sym fault) (empty_part, cut_before (lines_of c.read) c.told old new c.goes_on written)
  ];
}
  where
    so : Served → Type 0
    so end = Ends end c.read [] left c.told old new

    written : Appends old new (output_of (lines_of c.read) c.told)
    written = appends_kept old mid' new (output_of (lines_of c.read) c.told)
        (appends_kept old mid mid' (output_of (lines_of c.read) c.told) c.written kept) sent

-- a read failed, or the reads are spent, or what was written could not be handed on
pub ends_unread : {S : Type 0} (asks : S → DeskCommand → Told → S → Type 0) (text rest left line : List ℕ)
    (first now : S) (old mid mid' new : Option (List ℕ)) (reads still : ℕ) (result : Served) →
    Course asks text rest first now old mid reads → IsTaken rest left line 128 reads still → Keeps mid mid' →
    Keeps mid' new → (result ≡ ends.ReadFault) ⊎ (result ≡ ends.WriteFault) →
    IsServed asks text left first now old new result
ends_unread asks text rest left line first now old mid mid' new reads still result c i kept sent which = record {
  read = c.read;
  part = line;
  whole = c.whole ∙ ap (λ (l : List ℕ). c.read ++ l) i.whole;
  within = omega (arith, c.spent, i.spent, length-append c.read line);
  told = c.told;
  run = c.run;
  ends = elim which [
    | inl unread ↦ subst so (sym unread) (c.goes_on, (i.within, i.fits), written)
    | inr fault ↦ subst so
        (sym fault) ((i.within, i.fits), cut_before (lines_of c.read) c.told old new c.goes_on written)
  ];
}
  where
    so : Served → Type 0
    so end = Ends end c.read line left c.told old new

    written : Appends old new (output_of (lines_of c.read) c.told)
    written = appends_kept old mid' new (output_of (lines_of c.read) c.told)
        (appends_kept old mid mid' (output_of (lines_of c.read) c.told) c.written kept) sent

-- where the reads are spent as many bytes were read
pub spends_all : {S : Type 0} (asks : S → DeskCommand → Told → S → Type 0) (text rest left line : List ℕ)
    (first now : S) (old mid : Option (List ℕ)) (reads : ℕ) →
    Course asks text rest first now old mid reads → IsTaken rest left line 128 reads 0 →
    length text ≡ length left + 1048576
spends_all asks text rest left line first now old mid reads c i =
    omega (
      arith,
      c.spent,
      i.spent,
      ap length c.whole,
      ap length i.whole,
      length-append c.read rest,
      length-append line left,
    )

-- a line ends serving only by a command to stop, or a journal that is full
pub end_of_line : (read : Result Said WordFault) (t : List Told) (end : Served) → end_at (said_by read) t ≡ Some end →
    (end ≡ ends.Stopped) ⊎ (end ≡ ends.JournalFull)
end_of_line (Err fault) t end is = absurd (cc is)
end_of_line (Ok Stop) t end is = inl (sym (same_Some ends.Stopped end is))
end_of_line (Ok (Asks command)) [] end is = absurd (cc is)
end_of_line (Ok (Asks command)) (Answers answers.JournalFull ∷ t) end is = inr (sym (same_Some ends.JournalFull end is))
end_of_line (Ok (Asks command)) (Answers (answers.Joined place) ∷ t) end is = absurd (cc is)
end_of_line (Ok (Asks command)) (Answers answers.Removed ∷ t) end is = absurd (cc is)
end_of_line (Ok (Asks command)) (Answers (answers.Refused why) ∷ t) end is = absurd (cc is)
end_of_line (Ok (Asks command)) (Answers answers.NoMemory ∷ t) end is = absurd (cc is)
end_of_line (Ok (Asks command)) (Shows table ∷ t) end is = absurd (cc is)
end_of_line (Ok (Asks command)) (Measures gap ∷ t) end is = absurd (cc is)
end_of_line (Ok (Asks command)) (Counts text ∷ t) end is = absurd (cc is)
end_of_line (Ok (Asks command)) (Reloads text ∷ t) end is = absurd (cc is)

-- a front of a text stays so
front_kept : (old mid new : Option (List ℕ)) (text : List ℕ) → PutsFront old mid text → Keeps mid new →
    PutsFront old new text
front_kept old mid new text p k =
    record { front = p.front; unput = p.unput; cut = p.cut; grows = appends_kept old mid new p.front p.grows k }

front_after : (old mid new : Option (List ℕ)) (text : List ℕ) → Keeps old mid → PutsFront mid new text →
    PutsFront old new text
front_after old mid new text k p =
    record { front = p.front; unput = p.unput; cut = p.cut; grows = kept_appends old mid new p.front k p.grows }

last_after : (old mid new : Option (List ℕ)) (text : List ℕ) (end result : Served) → Keeps old mid →
    IsLast mid new text end result → IsLast old new text end result
last_after old mid new text end result k (inl done) = inl (done.0, kept_appends old mid new text k done.1)
last_after old mid new text end result k (inr cut) = inr (cut.0, front_after old mid new text k cut.1)

-- serving as it ended with a line that was read whole
served_line : {S : Type 0} (asks : S → DeskCommand → Told → S → Type 0) (text rest left line : List ℕ)
    (first now after : S) (old mid new : Option (List ℕ)) (reads still : ℕ) (t : List Told) (result : Served)
    (c : Course asks text rest first now old mid reads) (i : IsTaken rest (10 ∷ left) line 128 reads (still + 1)) →
    Asked asks (said_by (line_said line)) now t after →
    Ends result (c.read ++ whole_line line) [] left (t ++ c.told) old new →
    IsServed asks text left first after old new result
served_line asks text rest left line first now after old mid new reads still t result c i asked so =
    let a = line_added asks text rest left line first now after old mid reads (still + 1) t c i asked in
    record {
      read = c.read ++ whole_line line;
      part = [];
      whole = whole_more text c.read rest line left c.whole i.whole;
      within = omega (
        arith,
        c.spent,
        i.spent,
        ap length (append-nil (c.read ++ whole_line line)),
        length-append c.read (whole_line line),
        length-append line (10 ∷ []),
      );
      told = t ++ c.told;
      run = a.run;
      ends = so;
    }

-- a line that ended serving, and was answered
ends_answered : {S : Type 0} (asks : S → DeskCommand → Told → S → Type 0) (text rest left line : List ℕ)
    (first now after : S) (old mid new : Option (List ℕ)) (reads still : ℕ) (t : List Told) (end : Served) →
    (end ≡ ends.Stopped) ⊎ (end ≡ ends.JournalFull) → Course asks text rest first now old mid reads →
    IsTaken rest (10 ∷ left) line 128 reads (still + 1) → Asked asks (said_by (line_said line)) now t after →
    end_at (said_by (line_said line)) t ≡ Some end → Appends mid new (line_text (said_by (line_said line)) t) →
    IsServed asks text left first after old new end
ends_answered asks text rest left line first now after old mid new reads still t end which c i asked is put =
    elim which [
      | inl stopped ↦ subst (λ (e : Served). IsServed asks text left first after old new e) (sym stopped)
          (served_line asks text rest left line first now after old mid new reads still t ends.Stopped c i asked
          (a.ends ends.Stopped (is ∙ ap Some stopped) c.goes_on, refl, written))
      | inr full ↦ subst (λ (e : Served). IsServed asks text left first after old new e) (sym full)
          (served_line asks text rest left line first now after old mid new reads still t ends.JournalFull c i asked
          (a.ends ends.JournalFull (is ∙ ap Some full) c.goes_on, refl, written))
    ]
  where
    a : Added asks first after (lines_of (c.read ++ whole_line line)) (lines_of c.read) (t ++ c.told) c.told t
        (said_by (line_said line))
    a = line_added asks text rest left line first now after old mid reads (still + 1) t c i asked

    written : Appends old new (output_of (lines_of (c.read ++ whole_line line)) (t ++ c.told))
    written = subst (Appends old new) (sym a.text)
        (appends_both old mid new (output_of (lines_of c.read) c.told) (line_text (said_by (line_said line)) t)
        c.written put)

-- a line whose answer was not written, or not handed on
ends_cut : {S : Type 0} (asks : S → DeskCommand → Told → S → Type 0) (text rest left line : List ℕ)
    (first now after : S) (old mid new : Option (List ℕ)) (reads still : ℕ) (t : List Told) →
    Course asks text rest first now old mid reads → IsTaken rest (10 ∷ left) line 128 reads (still + 1) →
    Asked asks (said_by (line_said line)) now t after →
    PutsFront mid new (line_text (said_by (line_said line)) t) →
    IsServed asks text left first after old new ends.WriteFault
ends_cut asks text rest left line first now after old mid new reads still t c i asked put =
    let a = line_added asks text rest left line first now after old mid reads (still + 1) t c i asked in
    served_line asks text rest left line first now after old mid new reads still t ends.WriteFault c i asked
    (empty_part, a.cut old mid new c.goes_on c.written put)

-- what the end of a line's turn is: the writer failed, or the line's own end
pub ends_turn : {S : Type 0} (asks : S → DeskCommand → Told → S → Type 0) (text rest left line : List ℕ)
    (first now after : S) (old mid mid' sent new : Option (List ℕ)) (reads still : ℕ) (end result : Served) →
    Course asks text rest first now old mid reads → IsTaken rest (10 ∷ left) line 128 reads (still + 1) →
    Keeps mid mid' → Turned asks (said_by (line_said line)) now after mid' sent (Some end) →
    (result ≡ end) ⊎ (result ≡ ends.WriteFault) → Keeps sent new → IsServed asks text left first after old new result
ends_turn asks text rest left line first now after old mid mid' sent new reads still end result c i kept turned which
    flushed =
    by turned.done turned.put turned.is which
  where
    t : List Told
    t = turned.told

    answer : List ℕ
    answer = line_text (said_by (line_said line)) t

    cut : PutsFront mid' sent answer → IsServed asks text left first after old new ends.WriteFault
    cut put = ends_cut asks text rest left line first now after old mid new reads still t c i turned.asked
        (front_after mid mid' new answer kept (front_kept mid' sent new answer put flushed))

    failed : PutsFront mid' sent answer → (e : Served) → e ≡ ends.WriteFault →
        IsServed asks text left first after old new e
    failed put e is = subst (λ (x : Served). IsServed asks text left first after old new x) (sym is) (cut put)

    by : (done : Bool) → Puts mid' sent answer done → Some end ≡ closed done (end_at (said_by (line_said line)) t) →
        (result ≡ end) ⊎ (result ≡ ends.WriteFault) → IsServed asks text left first after old new result
    by false put is (inl same) = failed put result (same ∙ same_Some end ends.WriteFault is)
    by false put is (inr fault) = failed put result fault
    by true put is (inr fault) = failed (front_of mid' sent answer true put) result fault
    by true put is (inl same) =
        subst (λ (x : Served). IsServed asks text left first after old new x) (sym same)
        (ends_answered asks text rest left line first now after old mid new reads still t end
        (end_of_line (line_said line) t end (sym is)) c i turned.asked (sym is)
        (kept_appends mid mid' new answer kept (appends_kept mid' sent new answer put flushed)))

-- ---- a last line, that is too long or has no line feed

-- serving as it ended with bytes that are no whole line
served_last : {S : Type 0} (asks : S → DeskCommand → Told → S → Type 0) (text rest left piece : List ℕ) (first now : S)
    (old mid new : Option (List ℕ)) (reads still : ℕ) (fault : Fault) (end result : Served)
    (c : Course asks text rest first now old mid reads) → rest ≡ piece ++ left → length piece + still ≡ reads →
    IsOneLine piece → said piece ≡ Err fault → end_at (Err fault) [] ≡ Some end →
    IsLast mid new (fault_text fault) end result →
    (EndsWith end (lines_of (c.read ++ piece)) c.told →
    Appends old new (output_of (lines_of (c.read ++ piece)) c.told) →
    Ends end (c.read ++ piece) [] left c.told old new) →
    IsServed asks text left first now old new result
served_last asks text rest left piece first now old mid new reads still fault end result c whole spent one says is put
    so =
    elim put [
      | inl done ↦ subst served (sym done.0)
          (as_it end (so (a.ends end is c.goes_on)
          (subst (Appends old new) (sym a.text)
          (appends_both old mid new (output_of (lines_of c.read) c.told) (fault_text fault) c.written done.1))))
      | inr cut ↦ subst served (sym cut.0)
          (as_it ends.WriteFault (empty_part, a.cut old mid new c.goes_on c.written cut.1))
    ]
  where
    served : Served → Type 0
    served e = IsServed asks text left first now old new e

    a : Added asks first now (lines_of (c.read ++ piece)) (lines_of c.read) c.told c.told [] (Err fault)
    a = added_to asks first now now piece (lines_of (c.read ++ piece)) (lines_of c.read) c.told [] (Err fault)
        (lines_more c.read piece (c.joins piece) one) says c.run refl

    as_it : (e : Served) → Ends e (c.read ++ piece) [] left c.told old new → IsServed asks text left first now old new e
    as_it e how = record {
      read = c.read ++ piece;
      part = [];
      whole = c.whole ∙ (ap (λ (l : List ℕ). c.read ++ l) whole ∙ sym (append_assoc c.read piece left));
      within = omega (arith, c.spent, spent, ap length (append-nil (c.read ++ piece)), length-append c.read piece);
      told = c.told;
      run = a.run;
      ends = how;
    }

pub ends_long : {S : Type 0} (asks : S → DeskCommand → Told → S → Type 0) (text rest left piece : List ℕ)
    (first now : S) (old mid mid' new : Option (List ℕ)) (reads still : ℕ) (result : Served) →
    Course asks text rest first now old mid reads → IsTaken rest left piece 129 reads still → length piece ≡ 129 →
    Keeps mid mid' → IsLast mid' new (fault_text LongLine) ends.TooLong result →
    IsServed asks text left first now old new result
ends_long asks text rest left piece first now old mid mid' new reads still result c i long kept put =
    let one = one_unended piece i.within (omega (arith, long)) in
    served_last asks text rest left piece first now old mid new reads still LongLine ends.TooLong result c i.whole
    i.spent one (said_long piece i.within (omega (arith, long))) refl
    (last_after mid mid' new (fault_text LongLine) ends.TooLong result kept put)
    (λ with-it written. (
      with-it,
      refl,
      subst (NewestHas 129) (sym (lines_more c.read piece (c.joins piece) one)) long,
      written,
    ))

pub ends_unended : {S : Type 0} (asks : S → DeskCommand → Told → S → Type 0) (text rest left piece : List ℕ)
    (first now : S) (old mid mid' new : Option (List ℕ)) (reads still : ℕ) (result : Served) →
    Course asks text rest first now old mid reads → IsTaken rest [] piece 128 reads (still + 1) → left ≡ [] →
    0 < length piece → Keeps mid mid' → IsLast mid' new (fault_text Unended) ends.Unended result →
    IsServed asks text left first now old new result
ends_unended asks text rest left piece first now old mid mid' new reads still result c i none some kept put =
    served_last asks text rest left piece first now old mid new reads (still + 1) Unended ends.Unended result c
    (i.whole ∙ ap (λ (l : List ℕ). piece ++ l) (sym none)) i.spent
    (one_unended piece i.within some) (said_unended piece i.within i.fits) refl
    (last_after mid mid' new (fault_text Unended) ends.Unended result kept put)
    (λ with-it written. (with-it, refl, none, omega (arith, c.spent, i.spent, length-append c.read piece), written))
