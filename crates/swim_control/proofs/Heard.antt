-- Connections that were heard stay so with each turn.
use Rattle.std.proofs.Common.{◌≡◌, ◌≢◌, ℕ, ◌+◌, ◌<◌, List, [], ◌∷◌, ◌++◌, Option, Some, None, refl, sym, ap, subst, inl}
use Rattle.std.proofs.Common.{inr, arith}
use Rattle.std.specs.List.{AllByRecursion}
use Rattle.std.proofs.lemmas.Bool.{ne_eqb}
use Rattle.std.proofs.lemmas.List.{append-nil}
use Rattle.swim_text.specs.ShortLines.{none_taken}
use Rattle.swim_control.specs.declared.desks.DeskCommand.{DeskCommand}
use Rattle.swim_control.specs.declared.connections.Close.TheVariants as closes
use Rattle.swim_control.specs.declared.connections.Stand.{Stand}
use Rattle.swim_control.specs.declared.connections.Stand.TheVariants.{Idle, Busy, Ended, Closed}
use Rattle.swim_control.specs.declared.serving.Served.{Served}
use Rattle.swim_control.specs.Connections.{Answers, HandsOn, ReadsOn, Turns, kept_at, newcomer}
use Rattle.swim_control.specs.Desks.{Told}
use Rattle.swim_control.specs.Serving.{CourseKnown, IsServedKnown}
use Rattle.swim_control.specs.Talks.{Talk, Talks}
use Rattle.swim_control.specs.SideBySide.{Called, Leads, calls_by, Joins, Brought, IsHeard, AreApart, AreHeard}
use Rattle.swim_control.specs.SideBySide.{IsServedTo, HearsOn, HearsNewcomer}
use Rattle.swim_control.proofs.Known.{start_known}
use Rattle.swim_control.proofs.Steps.{course_kept, stepped}

-- ---- a turn of one connection

heard_hands : (b : Brought) (log : List Called) (old new : Talk) → HandsOn old new → IsHeard b log old →
    IsHeard b log new
heard_hands b log old new h i = subst (IsHeard b log) (sym h.2) (λ serves.
    let was = i serves in (
      was.0,
      was.1,
      course_kept (Joins old.id) (b.text old.id) was.0 [] (calls_by old.id log) (b.old old.id) old.written
          new.written was.1 was.2 h.1,
      was.3,
    ))

heard_reads : (b : Brought) (log : List Called) (old new : Talk) → ReadsOn old new → IsHeard b log old →
    IsHeard b log new
heard_reads b log old new r i = subst (IsHeard b log) (sym r.3) (λ serves.
    let was = i serves in (
      was.0,
      was.1,
      course_kept (Joins old.id) (b.text old.id) was.0 [] (calls_by old.id log) (b.old old.id) old.written
          new.written was.1 was.2 r.2,
      r.1 was.0 was.1 was.3,
    ))

same_ended : (end e : Served) → Ended end ≡ Ended e → end ≡ e
same_ended end e is = cc is

-- what became of a connection and of the desk
pub record Outcome {S : Type 0} (asks : S → DeskCommand → Told → S → Type 0) (first after : S) (b : Brought)
    (log : List Called) (stand : Stand) (old new : Talk) : Type 0 where
  pub more : List Called
  pub leads : Leads asks first (more ++ log) after
  pub others : (other : ℕ) → old.id ≢ other → calls_by other (more ++ log) ≡ calls_by other log
  pub mine : AllByRecursion (λ (c : Called). c.by ≡ old.id) more
  pub same : new.id ≡ old.id
  pub heard : IsHeard b (more ++ log) new
  pub ends : (end : Served) → stand ≡ Ended end →
      IsServedKnown (Joins new.id) (b.text new.id) new.left [] (calls_by new.id (more ++ log)) (b.old new.id)
      new.written end

-- nothing was asked
nothing_asked : {S : Type 0} (asks : S → DeskCommand → Told → S → Type 0) (first now after : S) (b : Brought)
    (log : List Called) (stand : Stand) (old new : Talk) →
    Leads asks first log now → after ≡ now → new.id ≡ old.id → IsHeard b log new →
    ((end : Served) → stand ≡ Ended end → ⊥) → Outcome asks first after b log stand old new
nothing_asked asks first now after b log stand old new leads quiet-so same heard none = record {
  more = [];
  leads = subst (Leads asks first log) (sym quiet-so) leads;
  others = λ other apart. refl;
  mine = tt;
  same = same;
  heard = heard;
  ends = λ end is. absurd (none end is);
}

-- a line ended
line_ended : {S : Type 0} (asks : S → DeskCommand → Told → S → Type 0) (first desk after : S) (b : Brought)
    (log : List Called) (now : ℕ) (stand : Stand) (old new : Talk) (end : Option Served) →
    Leads asks first log desk → IsHeard b log old → Answers asks now old new desk after end →
    ((e : Served) → stand ≡ Ended e → end ≡ Some e) → Outcome asks first after b log stand old new
line_ended asks first desk after b log now stand old new end leads i a so =
    let was = i a.serving.1 in
    let s = stepped asks first desk after old.id (b.text old.id) was.0 new.left (b.old old.id) old.written a.put
    new.written a.line was.1 new.reads a.met end log leads was.2 (a.read was.0 was.1 was.3) a.meets a.sent in
    let same : new.id ≡ old.id = ap (λ (t : Talk). t.id) a.rest in
    record {
      more = s.more;
      leads = s.leads;
      others = s.others;
      mine = s.mine;
      same = same;
      heard = subst (IsHeard b (s.more ++ log)) (sym a.rest) (λ serves.
          (new.left, new.reads, s.goes_on serves, none_taken new.left [] 128 new.reads refl));
      ends = λ e is. subst (λ (id : ℕ). IsServedKnown (Joins id) (b.text id) new.left [] (calls_by id (s.more ++ log))
          (b.old id) new.written e) (sym same) (s.ends e (so e is));
    }

pub turned_heard : {S : Type 0} (asks : S → DeskCommand → Told → S → Type 0) (first desk after : S) (b : Brought)
    (log : List Called) (now : ℕ) (stand : Stand) (old new : Talk) →
    Leads asks first log desk → IsHeard b log old → Turns asks now stand old new desk after →
    Outcome asks first after b log stand old new
turned_heard {S = S} asks first desk after b log now stand old new leads i t = by stand t where
  hands : (s : Stand) → after ≡ desk → HandsOn old new → ((end : Served) → s ≡ Ended end → ⊥) →
      Outcome asks first after b log s old new
  hands s q h none = nothing_asked asks first desk after b log s old new leads q (ap (λ (t : Talk). t.id) h.2)
      (heard_hands b log old new h i) none

  reads : (s : Stand) → after ≡ desk → ReadsOn old new → ((end : Served) → s ≡ Ended end → ⊥) →
      Outcome asks first after b log s old new
  reads s q r none = nothing_asked asks first desk after b log s old new leads q (ap (λ (t : Talk). t.id) r.3)
      (heard_reads b log old new r i) none

  by : (s : Stand) → Turns asks now s old new desk after → Outcome asks first after b log s old new
  by Idle t = elim t.1 [ inl h ↦ hands Idle t.0 h.0 (λ end is. cc is) | inr r ↦ reads Idle t.0 r.0 (λ end is. cc is) ]
  by Busy t = elim t [
    | inl q ↦ elim q.1 [ inl h ↦ hands Busy q.0 h.0 (λ end is. cc is) | inr r ↦ reads Busy q.0 r.0 (λ end is. cc is) ]
    | inr a ↦ line_ended asks first desk after b log now Busy old new None leads i a (λ e is. absurd (cc is))
  ]
  by (Ended end) t = line_ended asks first desk after b log now (Ended end) old new (Some end) leads i t
      (λ e is. ap Some (same_ended end e is))
  by (Closed (closes.Served end)) t =
      nothing_asked asks first desk after b log (Closed (closes.Served end)) old new leads t.0
      (ap (λ (t : Talk). t.id) t.1) (subst (IsHeard b log) (sym t.1) i) (λ e is. cc is)
  by (Closed closes.Silent) t = reads (Closed closes.Silent) t.0 t.1 (λ end is. cc is)
  by (Closed closes.Untaken) t = hands (Closed closes.Untaken) t.0 t.1.0 (λ end is. cc is)

-- ---- all connections

all_still : {A : Type 0} (P Q : A → Type 0) (xs : List A) → ((x : A) → P x → Q x) → AllByRecursion P xs →
    AllByRecursion Q xs
all_still P Q [] each all = tt
all_still P Q (x ∷ xs) each all = (each x all.0, all_still P Q xs each all.1)

all_both : {A : Type 0} (P Q R : A → Type 0) (xs : List A) → ((x : A) → P x → Q x → R x) → AllByRecursion P xs →
    AllByRecursion Q xs → AllByRecursion R xs
all_both P Q R [] each p q = tt
all_both P Q R (x ∷ xs) each p q = (each x p.0 q.0, all_both P Q R xs each p.1 q.1)

all_more : {A : Type 0} (P : A → Type 0) (xs ys : List A) → AllByRecursion P xs → AllByRecursion P ys →
    AllByRecursion P (xs ++ ys)
all_more P [] ys p q = q
all_more P (x ∷ xs) ys p q = (p.0, all_more P xs ys p.1 q)

-- one that has another number joins those that are apart
apart_more : (talks : List Talk) (t : Talk) → AreApart talks → AllByRecursion (λ (u : Talk). u.id ≢ t.id) talks →
    AreApart (talks ++ t ∷ [])
apart_more [] t apart other = (tt, tt)
apart_more (u ∷ talks) t apart other = (
  all_more (λ (v : Talk). v.id ≢ u.id) talks (t ∷ []) apart.0 ((λ (same : t.id ≡ u.id). other.0 (sym same)), tt),
  apart_more talks t apart.1 other.1,
)

heard_still : (b : Brought) (log after : List Called) (t : Talk) → calls_by t.id after ≡ calls_by t.id log →
    IsHeard b log t → IsHeard b after t
heard_still b log after t same i serves =
    let was = i serves in (
      was.0,
      was.1,
      subst (λ (calls : List Called). CourseKnown (Joins t.id) (b.text t.id) was.0 [] calls (b.old t.id)
          t.written was.1) (sym same) was.2,
      was.3,
    )

-- those that are left, and the one that had its turn, if it stays
after_turn : {S : Type 0} (asks : S → DeskCommand → Told → S → Type 0) (now count : ℕ) (stand : Stand)
    (first then_so : Talk) (others talks closed gone : List Talk) (desk after : S) →
    Turns asks now stand first then_so desk after → talks ≡ others ++ kept_at stand then_so →
    HearsOn asks stand (record { talks = first ∷ others; count = count; closed = closed })
    (record { talks = talks; count = count; closed = gone }) desk after
after_turn asks now count stand first then_so others talks closed gone desk after turn are b start log leads all =
    let o = turned_heard asks start desk after b log now stand first then_so leads all.heard.0 turn in
    let kept = all_kept stand o in (
      o.more,
      o.leads,
      record {
        heard = subst (AllByRecursion (IsHeard b (o.more ++ log))) (sym are)
            (all_more (IsHeard b (o.more ++ log)) others (kept_at stand then_so) (rest_heard o) kept.0);
        apart = subst AreApart (sym are) kept.1;
        came = subst (AllByRecursion (λ (t : Talk). t.id < count)) (sym are)
            (all_more (λ (t : Talk). t.id < count) others (kept_at stand then_so) all.came.1 kept.2);
        called = all_more (λ (c : Called). c.by < count) o.more log
            (all_still (λ (c : Called). c.by ≡ first.id) (λ (c : Called). c.by < count) o.more
            (λ c is. subst (λ (n : ℕ). n < count) (sym is) all.came.0) o.mine) all.called;
      },
      served o,
    )
  where
    rest_heard : (o : Outcome asks start after b log stand first then_so) →
        AllByRecursion (IsHeard b (o.more ++ log)) others
    rest_heard o = all_both (λ (u : Talk). u.id ≢ first.id) (IsHeard b log) (IsHeard b (o.more ++ log)) others
        (λ u apart i. heard_still b log (o.more ++ log) u (o.others u.id (λ same. apart (sym same))) i) all.apart.0
        all.heard.1

    others_apart : (o : Outcome asks start after b log stand first then_so) →
        AllByRecursion (λ (u : Talk). u.id ≢ then_so.id) others
    others_apart o = subst (λ (id : ℕ). AllByRecursion (λ (u : Talk). u.id ≢ id) others) (sym o.same) all.apart.0

    stays : (o : Outcome asks start after b log stand first then_so) →
        AllByRecursion (IsHeard b (o.more ++ log)) (then_so ∷ []) × AreApart (others ++ then_so ∷ []) ×
        AllByRecursion (λ (t : Talk). t.id < count) (then_so ∷ [])
    stays o = (
      (o.heard, tt),
      apart_more others then_so all.apart.1 (others_apart o),
      (subst (λ (n : ℕ). n < count) (sym o.same) all.came.0, tt),
    )

    all_kept : (s : Stand) (o : Outcome asks start after b log stand first then_so) →
        AllByRecursion (IsHeard b (o.more ++ log)) (kept_at s then_so) × AreApart (others ++ kept_at s then_so) ×
        AllByRecursion (λ (t : Talk). t.id < count) (kept_at s then_so)
    all_kept Idle o = stays o
    all_kept Busy o = stays o
    all_kept (Ended end) o = stays o
    all_kept (Closed why) o = (tt, subst AreApart (sym (append-nil others)) all.apart.1, tt)

    served : (o : Outcome asks start after b log stand first then_so) → IsServedTo b (o.more ++ log) stand talks
    served o = by stand are o.ends where
      by : (s : Stand) → talks ≡ others ++ kept_at s then_so →
          ((end : Served) → s ≡ Ended end →
          IsServedKnown (Joins then_so.id) (b.text then_so.id) then_so.left [] (calls_by then_so.id (o.more ++ log))
          (b.old then_so.id) then_so.written end) → IsServedTo b (o.more ++ log) s talks
      by Idle is ends = tt
      by Busy is ends = tt
      by (Ended end) is ends = (others, then_so, is, ends end refl)
      by (Closed why) is ends = tt

pub hears_on : {S : Type 0} (asks : S → DeskCommand → Told → S → Type 0) (now : ℕ) (stand : Stand) (old new : Talks)
    (desk after : S) (first then_so : Talk) (others : List Talk) → old.talks ≡ first ∷ others →
    Turns asks now stand first then_so desk after → new.talks ≡ others ++ kept_at stand then_so →
    new.count ≡ old.count → HearsOn asks stand old new desk after
hears_on asks now stand old new desk after first then_so others was turn are count =
    subst (λ (talks : List Talk).
    HearsOn asks stand (record { talks = talks; count = old.count; closed = old.closed }) new desk after) (sym was)
    (subst (λ (n : ℕ). HearsOn asks stand
    (record { talks = first ∷ others; count = old.count; closed = old.closed })
    (record { talks = new.talks; count = n; closed = new.closed }) desk after) (sym count)
    (after_turn asks now old.count stand first then_so others new.talks old.closed new.closed desk after turn are))

-- one that comes has a number of its own, and has asked nothing
pub no_calls : (count : ℕ) (log : List Called) → AllByRecursion (λ (c : Called). c.by < count) log →
    calls_by count log ≡ []
no_calls count [] called = refl
no_calls count (c ∷ log) called =
    let apart : c.by ≢ count = λ same. absurd (omega (arith, same, called.0)) in
    rw (ne_eqb c.by count apart) (no_calls count log called.1)

pub newcomer_heard : (old new : Talks) (left given written : Option (List ℕ)) (now : ℕ) →
    new ≡ record {
      talks = old.talks ++ newcomer old.count left given written now ∷ [];
      count = old.count + 1;
      closed = old.closed;
    } → HearsNewcomer old left written new
newcomer_heard old new left given written now is b log text before all = subst (AreHeard b log) (sym is) (record {
  heard = all_more (IsHeard b log) old.talks (t ∷ []) all.heard (heard, tt);
  apart = apart_more old.talks t all.apart
      (all_still (λ (u : Talk). u.id < old.count) (λ (u : Talk). u.id ≢ old.count) old.talks
      (λ u less same. absurd (omega (arith, less, same))) all.came);
  came = all_more (λ (u : Talk). u.id < old.count + 1) old.talks (t ∷ [])
      (all_still (λ (u : Talk). u.id < old.count) (λ (u : Talk). u.id < old.count + 1) old.talks
      (λ u less. omega (arith, less)) all.came) (omega arith, tt);
  called = all_still (λ (c : Called). c.by < old.count) (λ (c : Called). c.by < old.count + 1) log
      (λ c less. omega (arith, less)) all.called;
})
  where
    t : Talk
    t = newcomer old.count left given written now

    heard : IsHeard b log t
    heard serves = (left, 1048576, course, none_taken left [] 128 1048576 refl) where
      course : CourseKnown (Joins old.count) (b.text old.count) left [] (calls_by old.count log) (b.old old.count)
          written 1048576
      course = rw (no_calls old.count log all.called, text, before) (start_known (Joins old.count) left [] written)
