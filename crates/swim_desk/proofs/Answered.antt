-- Connections that were answered line by line stay so with each turn, and with each that comes.
use Rattle.std.proofs.Common.{◌≡◌, ◌≢◌, ℕ, ◌+◌, ◌<◌, List, [], ◌∷◌, ◌++◌, Option, Some, None, refl, sym, subst, ap}
use Rattle.std.proofs.Common.{◌∙◌, inl, inr, arith, append-nil}
use Rattle.std.specs.Io.KnownBytes.{Keeps}
use Rattle.std.specs.List.{AllByRecursion}
use Rattle.std.proofs.lemmas.Bool.Decides.{eqb_tells}
use Rattle.swim_text.specs.Streams.{appends_kept}
use Rattle.swim_control.specs.declared.connections.Stand.{Stand}
use Rattle.swim_control.specs.declared.connections.Stand.TheVariants as stands
use Rattle.swim_control.specs.declared.desks.DeskCommand.{DeskCommand}
use Rattle.swim_control.specs.declared.serving.Served.{Served}
use Rattle.swim_control.specs.declared.serving.Served.TheVariants as finals
use Rattle.swim_control.specs.Connections.{TakesTurn, kept_at, newcomer}
use Rattle.swim_control.specs.Desks.{Told}
use Rattle.swim_control.specs.Serving.{AreCutOff, CourseKnown, Ends, IsServedKnown, lines_of}
use Rattle.swim_control.specs.SideBySide.{AreApart, AreHeard, Brought, Called, IsHeard, Joins, Leads, calls_by}
use Rattle.swim_control.specs.Talks.{Talk, Talks}
use Rattle.swim_control.proofs.Heard.{hears_on, newcomer_heard, turned_heard}
use Rattle.swim_desk.specs.Connected.{AreAnswered, IsAnswered}
use Rattle.swim_desk.specs.Controlling.{with_newcomer}
use Rattle.swim_desk.proofs.Since.{Counted, Counts, IsCalm, count_of, counted_before, none_more, since_then}
use Rattle.swim_desk.proofs.Since.{turn_counted}

-- ---- what is handed on changes nothing of how a connection was served

cut_kept : (lines : List (List ℕ)) (told : List Told) (old mid new : Option (List ℕ)) → AreCutOff lines told old mid →
    Keeps mid new → AreCutOff lines told old new
cut_kept [] told old mid new is kept = appends_kept old mid new [] is kept
cut_kept (line ∷ before) told old mid new is kept = record {
  goes_on = is.goes_on;
  front = is.front;
  unput = is.unput;
  answer = is.answer;
  written = appends_kept old mid new _ is.written kept;
}

ends_kept : (end : Served) (read part rest : List ℕ) (told : List Told) (old mid new : Option (List ℕ)) →
    Ends end read part rest told old mid → Keeps mid new → Ends end read part rest told old new
ends_kept finals.Ended read part rest told old mid new is kept =
    (is.0, is.1, is.2, is.3, appends_kept old mid new _ is.4 kept)
ends_kept finals.Unended read part rest told old mid new is kept =
    (is.0, is.1, is.2, is.3, appends_kept old mid new _ is.4 kept)
ends_kept finals.TooLong read part rest told old mid new is kept =
    (is.0, is.1, is.2, appends_kept old mid new _ is.3 kept)
ends_kept finals.Stopped read part rest told old mid new is kept =
    (is.0, is.1, appends_kept old mid new _ is.2 kept)
ends_kept finals.JournalFull read part rest told old mid new is kept =
    (is.0, is.1, appends_kept old mid new _ is.2 kept)
ends_kept finals.ReadFault read part rest told old mid new is kept =
    (is.0, is.1, appends_kept old mid new _ is.2 kept)
ends_kept finals.WriteFault read part rest told old mid new is kept =
    (is.0, cut_kept (lines_of read) told old mid new is.1 kept)

served_kept : {S : Type 0} (asks : S → DeskCommand → Told → S → Type 0) (text rest : Option (List ℕ)) (first last : S)
    (old mid new : Option (List ℕ)) (end : Served) → IsServedKnown asks text rest first last old mid end →
    Keeps mid new → IsServedKnown asks text rest first last old new end
served_kept asks None rest first last old mid new end is kept = tt
served_kept asks (Some text) None first last old mid new end is kept = absurd is
served_kept asks (Some text) (Some rest) first last old mid new end is kept = record {
  read = is.read;
  part = is.part;
  whole = is.whole;
  within = is.within;
  told = is.told;
  run = is.run;
  ends = ends_kept end is.read is.part rest is.told old mid new is.ends kept;
}

-- ---- one connection

-- as many calls by it are as many answers
pub still_answered : (b : Brought) (log after : List Called) (t : Talk) → calls_by t.id after ≡ calls_by t.id log →
    IsAnswered b log t → IsAnswered b after t
still_answered b log after t same is = record {
  heard = λ serves.
      let was = is.heard serves in (
        was.0,
        was.1,
        subst (λ (calls : List Called). CourseKnown (Joins t.id) (b.text t.id) was.0 [] calls (b.old t.id) t.written
            was.1) (sym same) was.2,
        was.3,
      );
  ended = λ end ends. subst (λ (calls : List Called).
      IsServedKnown (Joins t.id) (b.text t.id) t.left [] calls (b.old t.id) t.written end) (sym same)
      (is.ended end ends);
}

-- serving it had ended before
calm_ended : (b : Brought) (log more : List Called) (old new : Talk) (end : Served) → more ≡ [] → IsCalm old new →
    IsAnswered b log old → new.end ≡ Some end →
    IsServedKnown (Joins new.id) (b.text new.id) new.left [] (calls_by new.id (more ++ log)) (b.old new.id) new.written
    end
calm_ended b log more old new end none calm was ends =
    subst (λ (l : List Called). IsServedKnown (Joins new.id) (b.text new.id) new.left [] (calls_by new.id (l ++ log))
    (b.old new.id) new.written end) (sym none)
    (subst (λ (t : Talk). IsServedKnown (Joins t.id) (b.text t.id) t.left [] (calls_by t.id log) (b.old t.id)
    new.written end) (sym calm.1)
    (served_kept (Joins old.id) (b.text old.id) old.left [] (calls_by old.id log) (b.old old.id) old.written
    new.written end (was.ended end (sym (ap (λ (t : Talk). t.end) calm.1) ∙ ends)) calm.0))

-- a connection after its turn, and the calls that the desk got by it
pub record AnswersOn {S : Type 0} (asks : S → DeskCommand → Told → S → Type 0) (desk after : S) (b : Brought)
    (log : List Called) (old new : Talk) : Type 0 where
  pub more : List Called
  pub leads : Leads asks desk more after
  pub others : (other : ℕ) → old.id ≢ other → calls_by other (more ++ log) ≡ calls_by other log
  pub mine : AllByRecursion (λ (c : Called). c.by ≡ old.id) more
  pub same : new.id ≡ old.id
  pub answered : IsAnswered b (more ++ log) new

pub answers_on : {S : Type 0} (asks : S → DeskCommand → Told → S → Type 0) (desk after : S) (b : Brought)
    (log : List Called) (now : ℕ) (stand : Stand) (old new : Talk) →
    Counted asks desk after (count_of log) now stand old new → IsAnswered b log old →
    AnswersOn asks desk after b log old new
answers_on asks desk after b log now stand old new c was =
    let o = turned_heard (Counts asks desk after (count_of log)) 0 (count_of log) c.count b log now stand old new
    (counted_before asks desk after (count_of log) log (omega arith)) was.heard c.turn in
    record {
      more = o.more;
      leads = since_then asks desk after o.more log c.count o.leads c.on;
      others = o.others;
      mine = o.mine;
      same = o.same;
      answered = record {
        heard = o.heard;
        ended = λ end is. elim (c.ended end is) [
          | inl ends ↦ o.ends end ends
          | inr still ↦ calm_ended b log o.more old new end
              (none_more asks desk after o.more log c.count o.leads still.0) still.1 was is
        ];
      };
    }

-- ---- all connections

all_heard : (b : Brought) (log : List Called) (talks : List Talk) → AllByRecursion (IsAnswered b log) talks →
    AllByRecursion (IsHeard b log) talks
all_heard b log [] all = tt
all_heard b log (t ∷ talks) all = (all.0.heard, all_heard b log talks all.1)

are_heard : (b : Brought) (log : List Called) (all : Talks) → AreAnswered b log all → AreHeard b log all
are_heard b log all is = record {
  heard = all_heard b log all.talks is.served;
  apart = is.apart;
  came = is.came;
  called = is.called;
}

all_last : {A : Type 0} (P : A → Type 0) (xs : List A) (x : A) → AllByRecursion P xs → P x →
    AllByRecursion P (xs ++ x ∷ [])
all_last P [] x all last = (last, tt)
all_last P (y ∷ xs) x all last = (all.0, all_last P xs x all.1 last)

of_last : {A : Type 0} (P : A → Type 0) (xs : List A) (x : A) → AllByRecursion P (xs ++ x ∷ []) → P x
of_last P [] x all = all.0
of_last P (y ∷ xs) x all = of_last P xs x all.1

others_answered : (b : Brought) (log after : List Called) (id : ℕ) (talks : List Talk) →
    ((other : ℕ) → id ≢ other → calls_by other after ≡ calls_by other log) →
    AllByRecursion (λ (u : Talk). u.id ≢ id) talks → AllByRecursion (IsAnswered b log) talks →
    AllByRecursion (IsAnswered b after) talks
others_answered b log after id [] others apart all = tt
others_answered b log after id (t ∷ talks) others apart all = (
  still_answered b log after t (others t.id (λ same. apart.0 (sym same))) all.0,
  others_answered b log after id talks others apart.1 all.1,
)

all_called : (count id : ℕ) (more log : List Called) → id < count →
    AllByRecursion (λ (c : Called). c.by ≡ id) more → AllByRecursion (λ (c : Called). c.by < count) log →
    AllByRecursion (λ (c : Called). c.by < count) (more ++ log)
all_called count id [] log within mine called = called
all_called count id (c ∷ more) log within mine called = (
  subst (λ (n : ℕ). n < count) (sym mine.0) within,
  all_called count id more log within mine.1 called,
)

-- a connection that had its turn is among the others again, unless it was closed
kept_too : (P : Talk → Type 0) (stand : Stand) (others : List Talk) (t : Talk) → AllByRecursion P others → P t →
    AllByRecursion P (others ++ kept_at stand t)
kept_too P stands.Idle others t all is = all_last P others t all is
kept_too P stands.Busy others t all is = all_last P others t all is
kept_too P (stands.Ended end) others t all is = all_last P others t all is
kept_too P (stands.Closed why) others t all is = subst (AllByRecursion P) (sym (append-nil others)) all

pub turn_answered : {S : Type 0} (asks : S → DeskCommand → Told → S → Type 0) (now : ℕ) (stand : Stand)
    (old new : Talks) (desk after : S) (b : Brought) (log : List Called) →
    TakesTurn asks now stand old new desk after → new.count ≡ old.count → AreAnswered b log old →
    (more : List Called) × Leads asks desk more after × AreAnswered b (more ++ log) new
turn_answered asks now stand old new desk after b log t count all =
    let since : ℕ = count_of log in
    let served : AllByRecursion (IsAnswered b log) (t.first ∷ t.others) =
    subst (AllByRecursion (IsAnswered b log)) t.was all.served in
    let heard = are_heard b log old all in
    let apart : AllByRecursion (λ (u : Talk). u.id ≢ t.first.id) t.others = first_apart t.first t.others old heard t.was
    in
    let first_came : t.first.id < old.count = first_is_there t.first t.others old heard t.was in
    let c = turn_counted asks desk after since now stand t.first t.then_so t.turn in
    let o = answers_on asks desk after b log now stand t.first t.then_so c served.0 in
    let next = hears_on (Counts asks desk after since) now stand old new since c.count t.first t.then_so t.others t.was
    c.turn t.are count b 0 log
    (counted_before asks desk after since log (omega arith)) heard in (
      o.more,
      o.leads,
      record {
        served = subst (AllByRecursion (IsAnswered b (o.more ++ log))) (sym t.are)
            (kept_too (IsAnswered b (o.more ++ log)) stand t.others t.then_so
            (others_answered b log (o.more ++ log) t.first.id t.others o.others apart served.1) o.answered);
        each = λ id came. each_answered b log (o.more ++ log) old t.first t.then_so o.others o.same o.answered all id
            (subst (λ (n : ℕ). id < n) count came);
        apart = next.2.apart;
        came = next.2.came;
        called = subst (λ (n : ℕ). AllByRecursion (λ (c : Called). c.by < n) (o.more ++ log)) (sym count)
            (all_called old.count t.first.id o.more log first_came o.mine all.called);
      },
    )
  where
    first_apart : (first : Talk) (others : List Talk) (all : Talks) → AreHeard b log all → all.talks ≡ first ∷ others →
        AllByRecursion (λ (u : Talk). u.id ≢ first.id) others
    first_apart first others all is was = (subst AreApart was is.apart).0

    first_is_there : (first : Talk) (others : List Talk) (all : Talks) → AreHeard b log all →
        all.talks ≡ first ∷ others → first.id < all.count
    first_is_there first others all is was =
        (subst (AllByRecursion (λ (u : Talk). u.id < all.count)) was is.came).0

    each_answered : (b : Brought) (log more : List Called) (all : Talks) (first then_so : Talk) →
        ((other : ℕ) → first.id ≢ other → calls_by other more ≡ calls_by other log) → then_so.id ≡ first.id →
        IsAnswered b more then_so → AreAnswered b log all → (id : ℕ) → id < all.count →
        (t : Talk) × (t.id ≡ id) × IsAnswered b more t
    each_answered b log more all first then_so others same answered is id came = elim (eqb_tells first.id id) [
      | inl here ↦ (then_so, same ∙ here.1, answered)
      | inr elsewhere ↦
          let was = is.each id came in (
            was.0,
            was.1,
            still_answered b log more was.0
                (others was.0.id (λ met. elsewhere.1 (met ∙ was.1))) was.2,
          )
    ]

-- ---- who comes

newcomer_answered : (b : Brought) (log : List Called) (t : Talk) → IsHeard b log t → t.end ≡ None → IsAnswered b log t
newcomer_answered b log t heard none = record {
  heard = heard;
  ended = λ end is. absurd (cc (sym none ∙ is));
}

pub come_answered : (b : Brought) (log : List Called) (old : Talks) (left : Option (List ℕ)) (now : ℕ) →
    b.text old.count ≡ left → b.old old.count ≡ Some [] → AreAnswered b log old →
    AreAnswered b log (with_newcomer left now old)
come_answered b log old left now text before all =
    let t : Talk = newcomer old.count left (Some []) (Some []) now in
    let heard : AreHeard b log (with_newcomer left now old) =
    newcomer_heard old (with_newcomer left now old) left (Some []) (Some []) now refl b log text before
    (are_heard b log old all) in
    let answered : IsAnswered b log t =
    newcomer_answered b log t (of_last (IsHeard b log) old.talks t heard.heard) refl in
    record {
      served = all_last (IsAnswered b log) old.talks t all.served answered;
      each = λ id came. elim (eqb_tells id old.count) [
        | inl new ↦ (t, sym new.1, answered)
        | inr was ↦ all.each id (below id old.count came was.1)
      ];
      apart = heard.apart;
      came = heard.came;
      called = heard.called;
    }
  where
    below : (id count : ℕ) → id < count + 1 → id ≢ count → id < count
    below id count came apart = omega (arith, came, apart)

-- nobody has come
pub none_answered : (b : Brought) → AreAnswered b [] (record { talks = []; count = 0; closed = [] })
none_answered b = record {
  served = tt;
  each = λ id came. absurd (omega (arith, came));
  apart = tt;
  came = tt;
  called = tt;
}
