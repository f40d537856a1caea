-- Where serving has come: at the start, and after one more line.
use Rattle.std.proofs.Common.{◌≡◌, ℕ, ◌+◌, ◌<◌, ◌≤◌, Bool, true, false, List, [], ◌∷◌, ◌++◌, length, reverse, Option}
use Rattle.std.proofs.Common.{Some, None, Result, Ok, Err, refl, sym, ap, subst, ◌∙◌, arith}
use Rattle.std.specs.Prelude.{◌==◌, ◌||◌}
use Rattle.std.specs.Io.KnownBytes.{Keeps, Appends}
use Rattle.std.proofs.lemmas.Bool.{lt-ltb, le-ltb}
use Rattle.std.proofs.lemmas.List.{append_assoc, length-append, reverse-append}
use Rattle.swim_text.specs.Cutting.{pieces_at, pieces_last, bare_at, bare_last}
use Rattle.swim_text.specs.Lines.{pieces, has_feed}
use Rattle.swim_text.specs.ShortLines.{IsTaken}
use Rattle.swim_text.specs.Streams.{Puts, PutsFront, appends_none, appends_both, kept_appends, keeps_self}
use Rattle.swim_control.specs.declared.desks.DeskCommand.{DeskCommand}
use Rattle.swim_control.specs.declared.commands.Said.{Said}
use Rattle.swim_control.specs.declared.commands.Said.TheVariants.{Stop, Asks}
use Rattle.swim_control.specs.declared.faults.Fault.{Fault}
use Rattle.swim_control.specs.declared.faults.Fault.TheVariants.{LongLine, Unended, Words}
use Rattle.swim_control.specs.declared.serving.Served.{Served}
use Rattle.swim_control.specs.Commands.{said, said_by, line_said}
use Rattle.swim_control.specs.Desks.{Told}
use Rattle.swim_control.specs.Serving.{Course, lines_of, commands_then, commands_in, Tells, told_before, line_text}
use Rattle.swim_control.specs.Serving.{output_of, end_at, GoesOn, EndsWith, AreCutOff}
use Rattle.swim_control.specs.Turns.{closed, Asked, Turned}

-- ---- what a line says

feed_in : (line : List ℕ) → has_feed (line ++ 10 ∷ []) ≡ true
feed_in [] = refl
feed_in (b ∷ line) = by (b == 10) (feed_in line) where
  by : (c : Bool) → has_feed (line ++ 10 ∷ []) ≡ true → (c || has_feed (line ++ 10 ∷ [])) ≡ true
  by true h = refl
  by false h = h

said_whole : (line : List ℕ) → has_feed line ≡ false → length line ≤ 128 →
    said (line ++ 10 ∷ []) ≡ said_by (line_said line)
said_whole line none fits = rw (bare_at line none, le-ltb 128 (length line) fits, feed_in line) refl

pub said_unended : (line : List ℕ) → has_feed line ≡ false → length line ≤ 128 → said line ≡ Err Unended
said_unended line none fits = rw (bare_last line none, le-ltb 128 (length line) fits, none) refl

pub said_long : (line : List ℕ) → has_feed line ≡ false → 128 < length line → said line ≡ Err LongLine
said_long line none long = rw (bare_last line none, lt-ltb 128 (length line) long) refl

-- ---- one line more

-- the bytes are one line
abbrev pub IsOneLine : List ℕ → Type 0
IsOneLine piece = pieces piece ≡ piece ∷ []

one_whole : (line : List ℕ) → has_feed line ≡ false → IsOneLine (line ++ 10 ∷ [])
one_whole line none = pieces_at line [] none

pub one_unended : (line : List ℕ) → has_feed line ≡ false → 0 < length line → IsOneLine line
one_unended [] none some = absurd (omega arith)
one_unended (b ∷ line) none some = pieces_last b line none

-- what the desk told and was asked before stays so
told_back : {S : Type 0} (asks : S → DeskCommand → Told → S → Type 0) (read : Result Said Fault) (now after : S)
    (t told : List Told) → Asked asks read now t after → told_before read (t ++ told) ≡ told
told_back asks (Err fault) now after [] told asked = refl
told_back asks (Err fault) now after (x ∷ t) told asked = absurd asked
told_back asks (Ok Stop) now after [] told asked = refl
told_back asks (Ok Stop) now after (x ∷ t) told asked = absurd asked
told_back asks (Ok (Asks command)) now after [] told asked = absurd asked
told_back asks (Ok (Asks command)) now after (x ∷ []) told asked = refl
told_back asks (Ok (Asks command)) now after (x ∷ y ∷ t) told asked = absurd asked

text_same : {S : Type 0} (asks : S → DeskCommand → Told → S → Type 0) (read : Result Said Fault) (now after : S)
    (t told : List Told) → Asked asks read now t after → line_text read (t ++ told) ≡ line_text read t
text_same asks (Err fault) now after t told asked = refl
text_same asks (Ok Stop) now after t told asked = refl
text_same asks (Ok (Asks command)) now after [] told asked = absurd asked
text_same asks (Ok (Asks command)) now after (x ∷ t) told asked = refl

end_same : {S : Type 0} (asks : S → DeskCommand → Told → S → Type 0) (read : Result Said Fault) (now after : S)
    (t told : List Told) → Asked asks read now t after → end_at read (t ++ told) ≡ end_at read t
end_same asks (Err LongLine) now after t told asked = refl
end_same asks (Err Unended) now after t told asked = refl
end_same asks (Err (Words fault)) now after t told asked = refl
end_same asks (Ok Stop) now after t told asked = refl
end_same asks (Ok (Asks command)) now after [] told asked = absurd asked
end_same asks (Ok (Asks command)) now after (x ∷ t) told asked = refl

run_more : {S : Type 0} (asks : S → DeskCommand → Told → S → Type 0) (read : Result Said Fault) (first now after : S)
    (commands : List DeskCommand) (t told : List Told) → Tells asks first commands told now →
    Asked asks read now t after → Tells asks first (commands_then read commands) (t ++ told) after
run_more asks (Err fault) first now after commands [] told run asked =
    subst (Tells asks first commands told) (sym asked) run
run_more asks (Err fault) first now after commands (x ∷ t) told run asked = absurd asked
run_more asks (Ok Stop) first now after commands [] told run asked =
    subst (Tells asks first commands told) (sym asked) run
run_more asks (Ok Stop) first now after commands (x ∷ t) told run asked = absurd asked
run_more asks (Ok (Asks command)) first now after commands [] told run asked = absurd asked
run_more asks (Ok (Asks command)) first now after commands (x ∷ []) told run asked = (now, (run, asked))
run_more asks (Ok (Asks command)) first now after commands (x ∷ y ∷ t) told run asked = absurd asked

-- ---- where serving has come

-- a line more was read, and the desk was asked what it asks
pub record Added {S : Type 0} (asks : S → DeskCommand → Told → S → Type 0) (first after : S) (lines : List (List ℕ))
    (before : List (List ℕ)) (told earlier t : List Told) (read : Result Said Fault) : Type 0 where
  pub run : Tells asks first (commands_in lines) told after
  pub goes_on : end_at read t ≡ None → GoesOn before earlier → GoesOn lines told
  pub ends : (end : Served) → end_at read t ≡ Some end → GoesOn before earlier → EndsWith end lines told
  pub text : output_of lines told ≡ output_of before earlier ++ line_text read t
  pub cut : (old mid new : Option (List ℕ)) → GoesOn before earlier → Appends old mid (output_of before earlier) →
      PutsFront mid new (line_text read t) → AreCutOff lines told old new

pub lines_more : (read piece : List ℕ) → pieces (read ++ piece) ≡ pieces read ++ pieces piece → IsOneLine piece →
    lines_of (read ++ piece) ≡ piece ∷ lines_of read
lines_more read piece joins one = ap reverse (joins ∙ ap (λ (l : List (List ℕ)). pieces read ++ l) one) ∙
    reverse-append (pieces read) (piece ∷ [])

added : {S : Type 0} (asks : S → DeskCommand → Told → S → Type 0) (first now after : S) (piece : List ℕ)
    (before : List (List ℕ)) (earlier t : List Told) →
    Tells asks first (commands_in before) earlier now → Asked asks (said piece) now t after →
    Added asks first after (piece ∷ before) before (t ++ earlier) earlier t (said piece)
added asks first now after piece before earlier t run asked =
    let r = said piece in
    let back = told_back asks r now after t earlier asked in
    let same = text_same asks r now after t earlier asked in
    let end-is = end_same asks r now after t earlier asked in
    record {
      run = run_more asks r first now after (commands_in before) t earlier run asked;
      goes_on = λ none goes. (end-is ∙ none, subst (GoesOn before) (sym back) goes);
      ends = λ end is goes. (end-is ∙ is, subst (GoesOn before) (sym back) goes);
      text = ap (λ (l : List Told). output_of before l ++ line_text r (t ++ earlier)) back ∙
          ap (λ (x : List ℕ). output_of before earlier ++ x) same;
      cut = λ old mid new goes written put. record {
        goes_on = subst (GoesOn before) (sym back) goes;
        front = put.front;
        unput = put.unput;
        answer = same ∙ put.cut;
        written = subst (λ (told : List Told). Appends old new (output_of before told ++ put.front)) (sym back)
            (appends_both old mid new (output_of before earlier) put.front written put.grows);
      };
    }

-- the same, where it is known what the line says and what the lines are
pub added_to : {S : Type 0} (asks : S → DeskCommand → Told → S → Type 0) (first now after : S) (piece : List ℕ)
    (lines before : List (List ℕ)) (earlier t : List Told) (read : Result Said Fault) →
    lines ≡ piece ∷ before → said piece ≡ read → Tells asks first (commands_in before) earlier now →
    Asked asks read now t after → Added asks first after lines before (t ++ earlier) earlier t read
added_to asks first now after piece lines before earlier t read are says run asked =
    subst (λ (l : List (List ℕ)). Added asks first after l before (t ++ earlier) earlier t read) (sym are)
    (subst (λ (r : Result Said Fault). Added asks first after (piece ∷ before) before (t ++ earlier) earlier t r) says
    (added asks first now after piece before earlier t run
    (subst (λ (r : Result Said Fault). Asked asks r now t after) (sym says) asked)))

-- ---- at the start

pub at_start : {S : Type 0} (asks : S → DeskCommand → Told → S → Type 0) (text : List ℕ) (first : S)
    (written : Option (List ℕ)) → Course asks text text first first written written 1048576
at_start asks text first written = record {
  read = [];
  whole = refl;
  joins = λ more. refl;
  spent = omega arith;
  told = [];
  run = refl;
  goes_on = tt;
  written = appends_none written written (keeps_self written);
}

-- ---- one more line

-- a line was read, with its line feed
abbrev pub whole_line : List ℕ → List ℕ
whole_line line = line ++ 10 ∷ []

pub line_added : {S : Type 0} (asks : S → DeskCommand → Told → S → Type 0) (text rest left line : List ℕ)
    (first now after : S) (old mid : Option (List ℕ)) (reads still : ℕ) (t : List Told)
    (c : Course asks text rest first now old mid reads) → IsTaken rest (10 ∷ left) line 128 reads still →
    Asked asks (said_by (line_said line)) now t after →
    Added asks first after (lines_of (c.read ++ whole_line line)) (lines_of c.read) (t ++ c.told) c.told t
    (said_by (line_said line))
line_added asks text rest left line first now after old mid reads still t c i asked =
    added_to asks first now after (whole_line line) (lines_of (c.read ++ whole_line line)) (lines_of c.read) c.told t
    (said_by (line_said line))
    (lines_more c.read (whole_line line) (c.joins (whole_line line)) (one_whole line i.within))
    (said_whole line i.within i.fits) c.run asked

joins_more : (read line : List ℕ) → has_feed line ≡ false →
    ((more : List ℕ) → pieces (read ++ more) ≡ pieces read ++ pieces more) →
    (more : List ℕ) → pieces ((read ++ whole_line line) ++ more) ≡ pieces (read ++ whole_line line) ++ pieces more
joins_more read line none joins more =
    let all : pieces ((read ++ whole_line line) ++ more) ≡ pieces read ++ (whole_line line ∷ pieces more) =
    ap pieces (append_assoc read (whole_line line) more ∙
    ap (λ (l : List ℕ). read ++ l) (append_assoc line (10 ∷ []) more)) ∙
    (joins (line ++ 10 ∷ more) ∙ ap (λ (l : List (List ℕ)). pieces read ++ l) (pieces_at line more none)) in
    let front : pieces (read ++ whole_line line) ≡ pieces read ++ (whole_line line ∷ []) = joins (whole_line line) ∙
    ap (λ (l : List (List ℕ)). pieces read ++ l) (one_whole line none) in
    all ∙ (sym (append_assoc (pieces read) (whole_line line ∷ []) (pieces more)) ∙
    ap (λ (l : List (List ℕ)). l ++ pieces more) (sym front))

pub whole_more : (text read rest line left : List ℕ) → text ≡ read ++ rest → rest ≡ line ++ 10 ∷ left →
    text ≡ (read ++ whole_line line) ++ left
whole_more text read rest line left whole part =
    whole ∙ (ap (λ (l : List ℕ). read ++ l) (part ∙ sym (append_assoc line (10 ∷ []) left)) ∙
    sym (append_assoc read (whole_line line) left))

-- the answer was written where nothing else happened
put_whole : (done : Bool) (end : Option Served) (old new : Option (List ℕ)) (text : List ℕ) → Puts old new text done →
    None ≡ closed done end → Appends old new text × (end ≡ None)
put_whole true end old new text put is = (put, sym is)
put_whole false end old new text put is = absurd (cc is)

pub next : {S : Type 0} (asks : S → DeskCommand → Told → S → Type 0) (text rest left line : List ℕ)
    (first now after : S) (old mid mid' new : Option (List ℕ)) (reads still : ℕ) →
    Course asks text rest first now old mid reads → IsTaken rest (10 ∷ left) line 128 reads (still + 1) →
    Keeps mid mid' → Turned asks (said_by (line_said line)) now after mid' new None →
    Course asks text left first after old new still
next asks text rest left line first now after old mid mid' new reads still c i kept turned =
    let t = turned.told in
    let put = put_whole turned.done (end_at (said_by (line_said line)) t) mid' new
    (line_text (said_by (line_said line)) t) turned.put turned.is in
    let a = line_added asks text rest left line first now after old mid reads (still + 1) t c i turned.asked in
    record {
      read = c.read ++ whole_line line;
      whole = whole_more text c.read rest line left c.whole i.whole;
      joins = joins_more c.read line i.within c.joins;
      spent = omega (arith, c.spent, i.spent, length-append c.read (whole_line line), length-append line (10 ∷ []));
      told = t ++ c.told;
      run = a.run;
      goes_on = a.goes_on put.1 c.goes_on;
      written = subst (Appends old new) (sym a.text)
          (appends_both old mid new (output_of (lines_of c.read) c.told) (line_text (said_by (line_said line)) t)
          c.written (kept_appends mid mid' new (line_text (said_by (line_said line)) t) kept put.0));
    }
