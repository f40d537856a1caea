-- What became of one connection in a turn: the calls that it made, and how its line ended.
use Rattle.std.proofs.Common.{◌≡◌, ◌≢◌, ℕ, ◌+◌, Bool, true, false, List, [], ◌∷◌, ◌++◌, Option, Some, None, Result, Ok}
use Rattle.std.proofs.Common.{Err, refl, sym, subst, ◌∙◌, inl, inr}
use Rattle.std.specs.List.{AllByRecursion}
use Rattle.std.specs.Io.KnownBytes.{Keeps}
use Rattle.std.proofs.lemmas.Bool.{eq-eqb, ne_eqb}
use Rattle.swim_text.specs.declared.short_lines.LineEnd.{LineEnd}
use Rattle.swim_text.specs.declared.short_lines.LineEnd.TheVariants as lines
use Rattle.swim_text.specs.ShortLines.{ComesKnown}
use Rattle.std.proofs.lemmas.Option.{same_Some}
use Rattle.swim_text.specs.Streams.{Puts, appends_kept, puts_kept, keeps_self}
use Rattle.swim_control.specs.declared.desks.DeskCommand.{DeskCommand}
use Rattle.swim_control.specs.declared.commands.Said.{Said}
use Rattle.swim_control.specs.declared.commands.Said.TheVariants.{Stop, Asks}
use Rattle.swim_control.specs.declared.faults.Fault.{Fault}
use Rattle.swim_control.specs.declared.faults.Fault.TheVariants.{LongLine, Unended}
use Rattle.swim_control.specs.Texts.{fault_text}
use Rattle.swim_control.specs.declared.serving.Served.{Served}
use Rattle.swim_control.specs.declared.serving.Served.TheVariants as ends
use Rattle.swim_control.specs.Commands.{said_by, line_said}
use Rattle.swim_control.specs.Desks.{Told}
use Rattle.swim_control.specs.Serving.{CourseKnown, IsServedKnown, line_text, end_at}
use Rattle.swim_control.specs.Turns.{closed, Asked, IsLast, Meets, Turned}
use Rattle.swim_control.specs.SideBySide.{Called, Leads, calls_by, Joins}
use Rattle.swim_control.proofs.Known.{next_known, turn_known, long_known, unended_known, over_known, spent_known}
use Rattle.swim_control.proofs.Known.{failed_known}

-- ---- what is handed on changes nothing

pub course_kept : {S : Type 0} (asks : S → DeskCommand → Told → S → Type 0) (text rest : Option (List ℕ))
    (first now : S) (old mid new : Option (List ℕ)) (reads : ℕ) →
    CourseKnown asks text rest first now old mid reads → Keeps mid new →
    CourseKnown asks text rest first now old new reads
course_kept asks None rest first now old mid new reads c kept = tt
course_kept asks (Some text) None first now old mid new reads c kept = absurd c
course_kept asks (Some text) (Some rest) first now old mid new reads c kept = record {
  read = c.read;
  whole = c.whole;
  joins = c.joins;
  spent = c.spent;
  told = c.told;
  run = c.run;
  goes_on = c.goes_on;
  written = appends_kept old mid new _ c.written kept;
}

-- ---- the calls of one connection

own_call : (id : ℕ) (command : DeskCommand) (told : Told) (log : List Called) →
    calls_by id (record { by = id; command = command; told = told } ∷ log) ≡
    record { by = id; command = command; told = told } ∷ calls_by id log
own_call id command told log = rw (eq-eqb id id refl) refl

others_call : (id other : ℕ) (command : DeskCommand) (told : Told) (log : List Called) → id ≢ other →
    calls_by other (record { by = id; command = command; told = told } ∷ log) ≡ calls_by other log
others_call id other command told log apart = rw (ne_eqb id other apart) refl

-- a line's turn, as a turn of the connection's calls
pub record Owned {S : Type 0} (asks : S → DeskCommand → Told → S → Type 0) (first after : S) (id : ℕ)
    (read : Result Said Fault) (old new : Option (List ℕ)) (result : Option Served) (log : List Called) : Type 0 where
  pub more : List Called
  pub leads : Leads asks first (more ++ log) after
  pub turned : Turned (Joins id) read (calls_by id log) (calls_by id (more ++ log)) old new result
  pub others : (other : ℕ) → id ≢ other → calls_by other (more ++ log) ≡ calls_by other log
  pub mine : AllByRecursion (λ (c : Called). c.by ≡ id) more

quiet : {S : Type 0} (asks : S → DeskCommand → Told → S → Type 0) (first now after : S) (id : ℕ)
    (read : Result Said Fault) (old new : Option (List ℕ)) (result : Option Served) (log : List Called)
    (told : List Told) →
    Leads asks first log now → after ≡ now → Turned (Joins id) read (calls_by id log) (calls_by id log) old new result →
    Owned asks first after id read old new result log
quiet asks first now after id read old new result log told leads same turned = record {
  more = [];
  leads = subst (Leads asks first log) (sym same) leads;
  turned = turned;
  others = λ other apart. refl;
  mine = tt;
}

pub owned : {S : Type 0} (asks : S → DeskCommand → Told → S → Type 0) (first now after : S) (id : ℕ)
    (read : Result Said Fault) (old new : Option (List ℕ)) (result : Option Served) (log : List Called) →
    Leads asks first log now → Turned asks read now after old new result →
    Owned asks first after id read old new result log
owned {S = S} asks first now after id read old new result log leads turned =
    by read turned.told turned.asked turned.put turned.is where
      by : (r : Result Said Fault) (told : List Told) → Asked asks r now told after →
          Puts old new (line_text r told) turned.done → result ≡ closed turned.done (end_at r told) →
          Owned asks first after id r old new result log
      by (Err fault) [] asked put is =
          quiet asks first now after id (Err fault) old new result log [] leads asked
          (record { told = []; asked = refl; done = turned.done; put = put; is = is })
      by (Err fault) (x ∷ told) asked put is = absurd asked
      by (Ok Stop) [] asked put is =
          quiet asks first now after id (Ok Stop) old new result log [] leads asked
          (record { told = []; asked = refl; done = turned.done; put = put; is = is })
      by (Ok Stop) (x ∷ told) asked put is = absurd asked
      by (Ok (Asks command)) [] asked put is = absurd asked
      by (Ok (Asks command)) (x ∷ []) asked put is = record {
        more = record { by = id; command = command; told = x } ∷ [];
        leads = (now, (leads, asked));
        turned = record { told = x ∷ []; asked = own_call id command x log; done = turned.done; put = put; is = is };
        others = λ other apart. others_call id other command x log apart;
        mine = (refl, tt);
      }
      by (Ok (Asks command)) (x ∷ y ∷ told) asked put is = absurd asked

-- ---- a line that has ended

same_end : (text : List ℕ) (end e : Served) (done : Bool) (old mid new : Option (List ℕ)) → Puts old mid text done →
    Keeps mid new → Some e ≡ closed done (Some end) → IsLast old new text end e
same_end text end e true old mid new put kept is = inl (same_Some e end is, puts_kept old mid new text true put kept)
same_end text end e false old mid new put kept is =
    inr (same_Some e ends.WriteFault is, puts_kept old mid new text false put kept)

never_none : (end : Served) (done : Bool) → None ≡ closed done (Some end) → ⊥
never_none end true is = absurd (cc is)
never_none end false is = absurd (cc is)

unsent_failed : (rest left : Option (List ℕ)) (line : List ℕ) (reads still : ℕ) →
    ComesKnown rest left lines.Unsent line 128 reads still → ComesKnown rest left lines.Failed line 128 reads still
unsent_failed None left line reads still i = tt
unsent_failed (Some rest) None line reads still i = absurd i
unsent_failed (Some rest) (Some left) line reads still i = i

-- what became of it: serving goes on, with no part of a line read, or it has ended
pub record Stepped {S : Type 0} (asks : S → DeskCommand → Told → S → Type 0) (first after : S) (id : ℕ)
    (text left old written : Option (List ℕ)) (still : ℕ) (end : Option Served) (log : List Called) : Type 0 where
  pub more : List Called
  pub leads : Leads asks first (more ++ log) after
  pub others : (other : ℕ) → id ≢ other → calls_by other (more ++ log) ≡ calls_by other log
  pub mine : AllByRecursion (λ (c : Called). c.by ≡ id) more
  pub goes_on : end ≡ None → CourseKnown (Joins id) text left [] (calls_by id (more ++ log)) old written still
  pub ends : (e : Served) → end ≡ Some e →
      IsServedKnown (Joins id) text left [] (calls_by id (more ++ log)) old written e

-- the end of serving asks nothing of the desk
ended : {S : Type 0} (asks : S → DeskCommand → Told → S → Type 0) (first now after : S) (id : ℕ)
    (text left old written : Option (List ℕ)) (still : ℕ) (end : Option Served) (log : List Called) →
    Leads asks first log now → after ≡ now → (None ≡ end → ⊥) →
    ((e : Served) → Some e ≡ end → IsServedKnown (Joins id) text left [] (calls_by id log) old written e) →
    Stepped asks first after id text left old written still end log
ended asks first now after id text left old written still end log leads same some so = record {
  more = [];
  leads = subst (Leads asks first log) (sym same) leads;
  others = λ other apart. refl;
  mine = tt;
  goes_on = λ none. absurd (some (sym none));
  ends = λ e is. so e (sym is);
}

pub stepped : {S : Type 0} (asks : S → DeskCommand → Told → S → Type 0) (first now after : S) (id : ℕ)
    (text start left old mid put written : Option (List ℕ)) (line : List ℕ) (reads still : ℕ) (met : LineEnd)
    (end : Option Served) (log : List Called) →
    Leads asks first log now → CourseKnown (Joins id) text start [] (calls_by id log) old mid reads →
    ComesKnown start left met line 128 reads still → Meets asks met line now after mid put end → Keeps put written →
    Stepped asks first after id text left old written still end log
stepped asks first now after id text start left old mid put written line reads still lines.Feed end log leads c i m
    kept =
    let o = owned asks first now after id (said_by (line_said line)) mid put end log leads m in
    record {
      more = o.more;
      leads = o.leads;
      others = o.others;
      mine = o.mine;
      goes_on = λ none. course_kept (Joins id) text left [] (calls_by id (o.more ++ log)) old put written still
          (next_known (Joins id) text start left line [] (calls_by id log) (calls_by id (o.more ++ log)) old mid mid put
          reads still c i (keeps_self mid)
          (subst (λ (e : Option Served). Turned (Joins id) (said_by (line_said line)) (calls_by id log)
          (calls_by id (o.more ++ log)) mid put e) none o.turned)) kept;
      ends = λ e is. turn_known (Joins id) text start left line [] (calls_by id log) (calls_by id (o.more ++ log)) old
          mid mid put written reads still e e c i (keeps_self mid)
          (subst (λ (x : Option Served). Turned (Joins id) (said_by (line_said line)) (calls_by id log)
          (calls_by id (o.more ++ log)) mid put x) is o.turned) (inl refl) kept;
    }
stepped asks first now after id text start left old mid put written line reads still lines.Long end log leads c i m
    kept =
    ended asks first now after id text left old written still end log leads m.0
    (λ none. never_none ends.TooLong m.1.0 (none ∙ m.1.2))
    (λ e is. long_known (Joins id) text start left line [] (calls_by id log) old mid mid written reads still e c i
    (keeps_self mid) (same_end (fault_text LongLine) ends.TooLong e m.1.0 mid put written m.1.1 kept (is ∙ m.1.2)))
stepped asks first now after id text start left old mid put written line reads still lines.Unended end log leads c i m
    kept =
    ended asks first now after id text left old written still end log leads m.0
    (λ none. never_none ends.Unended m.1.0 (none ∙ m.1.2))
    (λ e is. unended_known (Joins id) text start left line [] (calls_by id log) old mid mid written reads still e c i
    (keeps_self mid) (same_end (fault_text Unended) ends.Unended e m.1.0 mid put written m.1.1 kept (is ∙ m.1.2)))
stepped asks first now after id text start left old mid put written line reads still lines.Over end log leads c i m
    kept =
    ended asks first now after id text left old written still end log leads m.0 (λ none. absurd (cc (none ∙ m.2)))
    (λ e is. over_known (Joins id) text start left line [] (calls_by id log) old mid put written reads still e c i
    (subst (Keeps mid) (sym m.1) (keeps_self mid)) kept (inl (same_Some e ends.Ended (is ∙ m.2))))
stepped asks first now after id text start left old mid put written line reads still lines.Spent end log leads c i m
    kept =
    ended asks first now after id text left old written still end log leads m.0 (λ none. absurd (cc (none ∙ m.2)))
    (λ e is. spent_known (Joins id) text start left line [] (calls_by id log) old mid put written reads still e c i
    (subst (Keeps mid) (sym m.1) (keeps_self mid)) kept (inl (same_Some e ends.ReadFault (is ∙ m.2))))
stepped asks first now after id text start left old mid put written line reads still lines.Failed end log leads c i m
    kept =
    ended asks first now after id text left old written still end log leads m.0 (λ none. absurd (cc (none ∙ m.2)))
    (λ e is. subst (λ (x : Served). IsServedKnown (Joins id) text left [] (calls_by id log) old written x)
    (sym (same_Some e ends.ReadFault (is ∙ m.2)))
    (failed_known (Joins id) text start left line [] (calls_by id log) old mid written reads still c i
    (subst (λ (p : Option (List ℕ)). Keeps p written) m.1 kept)))
stepped asks first now after id text start left old mid put written line reads still lines.Unsent end log leads c i m
    kept =
    ended asks first now after id text left old written still end log leads m.0 (λ none. absurd (cc (none ∙ m.2)))
    (λ e is. subst (λ (x : Served). IsServedKnown (Joins id) text left [] (calls_by id log) old written x)
    (sym (same_Some e ends.ReadFault (is ∙ m.2)))
    (failed_known (Joins id) text start left line [] (calls_by id log) old mid written reads still c
    (unsent_failed start left line reads still i) (subst (λ (p : Option (List ℕ)). Keeps p written) m.1 kept)))
