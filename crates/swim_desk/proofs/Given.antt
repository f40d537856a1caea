-- What one connection gave stays answered with its turn.
use Rattle.std.proofs.Common.{◌≡◌, ◌≢◌, ℕ, ◌<◌, List, [], ◌∷◌, ◌++◌, Option, Some, None, refl, sym, ap, subst, ◌∙◌, ◌⊎◌}
use Rattle.std.proofs.Common.{inl, inr, append_assoc, append-nil}
use Rattle.std.specs.Io.KnownBytes.{Appends, append_known}
use Rattle.std.specs.List.{AllByRecursion}
use Rattle.std.proofs.lemmas.Option.{same_Some}
use Rattle.swim_text.specs.ShortLines.{IsTaken, IsTakenKnown, none_taken}
use Rattle.swim_control.specs.declared.connections.Close.TheVariants as closes
use Rattle.swim_control.specs.declared.connections.Stand.{Stand}
use Rattle.swim_control.specs.declared.connections.Stand.TheVariants as stands
use Rattle.swim_control.specs.declared.desks.DeskCommand.{DeskCommand}
use Rattle.swim_control.specs.declared.serving.Served.{Served}
use Rattle.swim_control.specs.declared.serving.Served.TheVariants as finals
use Rattle.swim_control.specs.Connections.{Turns, TurnsOnGiven, newcomer, with_left}
use Rattle.swim_control.specs.Desks.{Told}
use Rattle.swim_control.specs.Serving.{AreCutOff, Course, CourseKnown, Ends, IsServedKnown, lines_of}
use Rattle.swim_control.specs.SideBySide.{Called, Joins, Leads, calls_by}
use Rattle.swim_control.specs.Talks.{Talk}
use Rattle.swim_control.proofs.Heard.{no_calls}
use Rattle.swim_control.proofs.Known.{start_known}
use Rattle.swim_desk.specs.Connected.{IsAnswered}
use Rattle.swim_desk.specs.Given.{IsAnsweredSoFar, brings}
use Rattle.swim_desk.proofs.Answered.{AnswersOn, answers_on, still_answered}
use Rattle.swim_desk.proofs.Since.{count_of, turn_counted}

-- ---- a text that goes on

-- where serving has come in a text is where it has come in one that goes on
course_more : {S : Type 0} (asks : S → DeskCommand → Told → S → Type 0) (text rest bytes : List ℕ) (first now : S)
    (old new : Option (List ℕ)) (reads : ℕ) → Course asks text rest first now old new reads →
    Course asks (text ++ bytes) (rest ++ bytes) first now old new reads
course_more asks text rest bytes first now old new reads c = record {
  read = c.read;
  whole = ap (λ l. l ++ bytes) c.whole ∙ append_assoc c.read rest bytes;
  joins = c.joins;
  spent = c.spent;
  told = c.told;
  run = c.run;
  goes_on = c.goes_on;
  written = c.written;
}

part_more : (text bytes part : List ℕ) (reads after : ℕ) → IsTaken text [] part 128 reads after →
    IsTaken (text ++ bytes) bytes part 128 reads after
part_more text bytes part reads after t = record {
  whole = ap (λ l. l ++ bytes) (t.whole ∙ append-nil part);
  within = t.within;
  fits = t.fits;
  spent = t.spent;
}

-- a connection whose lines were answered, of which a part of the next was read
abbrev HasCome : {S : Type 0} → (S → DeskCommand → Told → S → Type 0) → Option (List ℕ) → Option (List ℕ) → List ℕ → S →
    S → Option (List ℕ) → Option (List ℕ) → ℕ → Type 0
HasCome asks text left part first now old new after =
    (start : Option (List ℕ)) × (reads : ℕ) × CourseKnown asks text start first now old new reads
    × IsTakenKnown start left part 128 reads after

come_more : {S : Type 0} (asks : S → DeskCommand → Told → S → Type 0) (text : List ℕ) (start : Option (List ℕ))
    (bytes part : List ℕ) (first now : S) (old new : Option (List ℕ)) (reads after : ℕ) →
    CourseKnown asks (Some text) start first now old new reads → IsTakenKnown start (Some []) part 128 reads after →
    HasCome asks (Some (text ++ bytes)) (Some bytes) part first now old new after
come_more asks text None bytes part first now old new reads after c t = absurd c
come_more asks text (Some rest) bytes part first now old new reads after c t = (
  Some (rest ++ bytes),
  reads,
  course_more asks text rest bytes first now old new reads c,
  part_more rest bytes part reads after t,
)

answered_more : (log : List Called) (t : Talk) (given bytes : List ℕ) → (t.end ≡ None) ⊎ (bytes ≡ []) →
    IsAnswered (brings given) log (with_left [] t) → IsAnswered (brings (given ++ bytes)) log (with_left bytes t)
answered_more log t given bytes which is = record {
  heard = λ serves.
      let was = is.heard serves in
      come_more (Joins t.id) given was.0 bytes t.part [] (calls_by t.id log) (Some []) t.written was.1 t.reads was.2
      was.3;
  ended = λ end ends. elim which [
    | inl serves ↦ absurd (cc (sym serves ∙ ends))
    | inr none ↦
        subst (λ (l : List ℕ). IsServedKnown (Joins t.id) (Some (given ++ l)) (Some l) [] (calls_by t.id log) (Some [])
        t.written end) (sym none)
        (subst (λ (g : List ℕ). IsServedKnown (Joins t.id) (Some g) (Some []) [] (calls_by t.id log) (Some [])
        t.written end) (sym (append-nil given)) (is.ended end ends))
  ];
}

-- ---- what was written

-- it is known
abbrev IsKnown : Option (List ℕ) → Type 0
IsKnown bytes = (known : List ℕ) × (bytes ≡ Some known)

appended_known : (old new : Option (List ℕ)) (text : List ℕ) → IsKnown old → Appends old new text → IsKnown new
appended_known None new text known is = absurd (cc known.1)
appended_known (Some old) None text known is = absurd is
appended_known (Some old) (Some new) text known is = (new, refl)

cut_known : (lines : List (List ℕ)) (told : List Told) (old new : Option (List ℕ)) → IsKnown old →
    AreCutOff lines told old new → IsKnown new
cut_known [] told old new known is = appended_known old new [] known is
cut_known (line ∷ before) told old new known is = appended_known old new _ known is.written

ends_known : (end : Served) (read part rest : List ℕ) (told : List Told) (old new : Option (List ℕ)) → IsKnown old →
    Ends end read part rest told old new → IsKnown new
ends_known finals.Ended read part rest told old new known is = appended_known old new _ known is.4
ends_known finals.Unended read part rest told old new known is = appended_known old new _ known is.4
ends_known finals.TooLong read part rest told old new known is = appended_known old new _ known is.3
ends_known finals.Stopped read part rest told old new known is = appended_known old new _ known is.2
ends_known finals.JournalFull read part rest told old new known is = appended_known old new _ known is.2
ends_known finals.ReadFault read part rest told old new known is = appended_known old new _ known is.2
ends_known finals.WriteFault read part rest told old new known is =
    cut_known (lines_of read) told old new known is.1

course_known : {S : Type 0} (asks : S → DeskCommand → Told → S → Type 0) (text : List ℕ) (start : Option (List ℕ))
    (first now : S) (old new : Option (List ℕ)) (reads : ℕ) → IsKnown old →
    CourseKnown asks (Some text) start first now old new reads → IsKnown new
course_known asks text None first now old new reads known is = absurd is
course_known asks text (Some rest) first now old new reads known is = appended_known old new _ known is.written

served_known : {S : Type 0} (asks : S → DeskCommand → Told → S → Type 0) (text rest : List ℕ) (first last : S)
    (old new : Option (List ℕ)) (end : Served) → IsKnown old →
    IsServedKnown asks (Some text) (Some rest) first last old new end → IsKnown new
served_known asks text rest first last old new end known is =
    ends_known end is.read is.part rest is.told old new known is.ends

written_known : (log : List Called) (given : List ℕ) (t : Talk) → IsAnswered (brings given) log (with_left [] t) →
    IsKnown t.written
written_known log given t is = by t.end refl where
  by : (end : Option Served) → t.end ≡ end → IsKnown t.written
  by None none =
      let serves = is.heard none in
      course_known (Joins t.id) given serves.0 [] (calls_by t.id log) (Some []) t.written serves.1 ([], refl) serves.2
  by (Some end) ends =
      served_known (Joins t.id) given [] [] (calls_by t.id log) (Some []) t.written end ([], refl) (is.ended end ends)

-- ---- a turn

-- what was written before a connection came stays what it was; and serving it goes on, or nothing was read
turn_keeps : {S : Type 0} (asks : S → DeskCommand → Told → S → Type 0) (now : ℕ) (stand : Stand) (old new : Talk)
    (desk after : S) → Turns asks now stand old new desk after →
    (new.old ≡ old.old) × ((old.end ≡ None) ⊎ (new.left ≡ old.left))
turn_keeps asks now stands.Idle old new desk after t = elim t.1 [
  | inl h ↦ (ap (λ (t : Talk). t.old) h.0.2, inr (ap (λ (t : Talk). t.left) h.0.2))
  | inr r ↦ (ap (λ (t : Talk). t.old) r.0.3, inl r.0.0.1)
]
turn_keeps asks now stands.Busy old new desk after (inl t) = elim t.1 [
  | inl h ↦ (ap (λ (t : Talk). t.old) h.0.2, inr (ap (λ (t : Talk). t.left) h.0.2))
  | inr r ↦ (ap (λ (t : Talk). t.old) r.0.3, inl r.0.0.1)
]
turn_keeps asks now stands.Busy old new desk after (inr a) = (ap (λ (t : Talk). t.old) a.rest, inl a.serving.1)
turn_keeps asks now (stands.Ended end) old new desk after a = (ap (λ (t : Talk). t.old) a.rest, inl a.serving.1)
turn_keeps asks now (stands.Closed (closes.Served end)) old new desk after t =
    (ap (λ (t : Talk). t.old) t.1, inr (ap (λ (t : Talk). t.left) t.1))
turn_keeps asks now (stands.Closed closes.Silent) old new desk after t =
    (ap (λ (t : Talk). t.old) t.1.3, inl t.1.0.1)
turn_keeps asks now (stands.Closed closes.Untaken) old new desk after t =
    (ap (λ (t : Talk). t.old) t.1.0.2, inr (ap (λ (t : Talk). t.left) t.1.0.2))

-- what became of a connection in a turn, and of the calls of the desk
pub record AnswersGivenOn {S : Type 0} (asks : S → DeskCommand → Told → S → Type 0) (desk after : S)
    (log : List Called) (old new : Talk) : Type 0 where
  pub more : List Called
  pub leads : Leads asks desk more after
  pub others : (other : ℕ) → old.id ≢ other → calls_by other (more ++ log) ≡ calls_by other log
  pub mine : AllByRecursion (λ (c : Called). c.by ≡ old.id) more
  pub same : new.id ≡ old.id
  pub answered : IsAnsweredSoFar (more ++ log) new

pub given_on : {S : Type 0} (asks : S → DeskCommand → Told → S → Type 0) (desk after : S) (log : List Called)
    (now : ℕ) (stand : Stand) (old new : Talk) → TurnsOnGiven asks now stand old new desk after →
    IsAnsweredSoFar log old → AnswersGivenOn asks desk after log old new
given_on asks desk after log now stand old new given is =
    let bytes : List ℕ = given.0 in
    let keeps = turn_keeps asks now stand (with_left bytes old) (with_left [] new) desk after given.2 in
    let which : (old.end ≡ None) ⊎ (bytes ≡ []) = elim keeps.1 [
      | inl serves ↦ inl serves
      | inr still ↦ inr (sym (same_Some [] bytes still))
    ] in
    let was = answered_more log old is.given bytes which is.answered in
    let c = turn_counted asks desk after (count_of log) now stand (with_left bytes old) (with_left [] new) given.2 in
    let o = answers_on asks desk after (brings (is.given ++ bytes)) log now stand (with_left bytes old)
    (with_left [] new) c was in
    let written = written_known (o.more ++ log) (is.given ++ bytes) new o.answered in
    record {
      more = o.more;
      leads = o.leads;
      others = o.others;
      mine = o.mine;
      same = o.same;
      answered = record {
        given = is.given ++ bytes;
        is_given = given.1 ∙ ap (λ (g : Option (List ℕ)). append_known g bytes) is.is_given;
        written = written.0;
        is_written = written.1;
        began = keeps.0 ∙ is.began;
        answered = o.answered;
      };
    }

-- ---- calls of others

pub given_still : (log after : List Called) (t : Talk) → calls_by t.id after ≡ calls_by t.id log →
    IsAnsweredSoFar log t → IsAnsweredSoFar after t
given_still log after t same is = record {
  given = is.given;
  is_given = is.is_given;
  written = is.written;
  is_written = is.is_written;
  began = is.began;
  answered = still_answered (brings is.given) log after (with_left [] t) same is.answered;
}

-- ---- who comes

come_new : {S : Type 0} (asks : S → DeskCommand → Told → S → Type 0) (first : S) →
    HasCome asks (Some []) (Some []) [] first first (Some []) (Some []) 1048576
come_new asks first =
    (Some [], 1048576, start_known asks (Some []) first (Some []), none_taken (Some []) [] 128 1048576 refl)

pub newcomer_given : (log : List Called) (count : ℕ) (left : Option (List ℕ)) (now : ℕ) →
    AllByRecursion (λ (c : Called). c.by < count) log →
    IsAnsweredSoFar log (newcomer count left (Some []) (Some []) now)
newcomer_given log count left now called = record {
  given = [];
  is_given = refl;
  written = [];
  is_written = refl;
  began = refl;
  answered = record {
    heard = λ serves. rw (no_calls count log called) (come_new (Joins count) []);
    ended = λ end ends. absurd (cc ends);
  };
}
