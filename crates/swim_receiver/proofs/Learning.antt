-- What the receiver learns of members that come back, step by step.
use Rattle.std.proofs.Common.{◌≡◌, ℕ, suc, ◌+◌, ◌<◌, List, [], ◌∷◌, ◌++◌, length, take, refl, sym, ap, ◌∙◌, subst}
use Rattle.std.proofs.Common.{◌≢◌, ◌-◌, ◌^◌, cond, false, min, nat_eq, append_assoc, arith}
use Rattle.std.specs.List.{slice_index_or}
use Rattle.std.proofs.Math.Seq.{take-suc}
use mathlib.Core.List.{IsPrefix}
use Rattle.swim_history.specs.declared.rows.Change.{Change}
use Rattle.swim_history.specs.declared.rows.Row.{Row}
use Rattle.swim_history.specs.Changes.{table_after}
use Rattle.swim_history.specs.Setting.{Setting}
use Rattle.swim_rejoin.specs.Histories.{Event, table_in}
use Rattle.swim_rejoin.specs.Rejoiners.{Follows, Kept}
use Rattle.swim_rejoin.specs.Histories.Event.{Joined, Knocked, Ruled}
use Rattle.swim_node.proofs.Prefixes.{begins_itself, begins_whole}
use Rattle.swim_work.specs.declared.tidings.Note.{Note}
use Rattle.swim_work.specs.declared.tidings.Tidings.{Tidings}
use Rattle.swim_receiver.specs.declared.rejoining.Returning.{Returning}
use Rattle.swim_receiver.specs.Happenings.{Happening, events_in, joins_in, with_knocks}
use Rattle.swim_receiver.specs.Happenings.Happening.{Asked, Rejoined, Shown, Told}
use Rattle.swim_receiver.specs.Rejoining.{AreNews, IsReturning, Learns, LearnsOn}

-- news of a viewer that has seen more since
news_later : (o : Setting) (saw seen since : List Change) (news : List Happening) → IsPrefix seen since →
    AreNews o saw seen news → AreNews o saw since news
news_later o saw seen since [] later are = begins_whole saw seen since are later
news_later o saw seen since (Told tidings ∷ before) later are = news_later o saw seen since before later are
news_later o saw seen since (Shown rows ∷ before) later are =
    (are.0, begins_whole are.0 seen since are.1 later, are.2, are.3)
news_later o saw seen since (Rejoined id ∷ before) later are = absurd are
news_later o saw seen since (Asked rejoin ∷ before) later are = news_later o saw seen since before later are

-- some news, and then more
news_both : (o : Setting) (saw seen since : List Change) (more news : List Happening) → AreNews o saw seen news →
    AreNews o seen since more → AreNews o saw since (more ++ news)
news_both o saw seen since [] news first then = news_later o saw seen since news then first
news_both o saw seen since (Told tidings ∷ before) news first then =
    news_both o saw seen since before news first then
news_both o saw seen since (Shown rows ∷ before) news first then =
    (then.0, then.1, then.2, news_both o saw seen then.0 before news first then.3)
news_both o saw seen since (Rejoined id ∷ before) news first then = absurd then
news_both o saw seen since (Asked rejoin ∷ before) news first then = news_both o saw seen since before news first then

pub none_on : (o : Setting) (saw seen : List Change) (h : List Happening) → IsPrefix saw seen → LearnsOn o saw seen h h
none_on o saw seen h later = ([], refl, later)

pub more_on : (o : Setting) (saw seen since : List Change) (h mid now : List Happening) → LearnsOn o saw seen h mid →
    LearnsOn o seen since mid now → LearnsOn o saw since h now
more_on o saw seen since h mid now first then = (
  then.0 ++ first.0,
  then.1 ∙ (ap (λ l. then.0 ++ l) first.1 ∙ sym (append_assoc then.0 first.0 h)),
  news_both o saw seen since then.0 first.0 first.2 then.2,
)

pub on_later : (o : Setting) (saw seen since : List Change) (h now : List Happening) → IsPrefix seen since →
    LearnsOn o saw seen h now → LearnsOn o saw since h now
on_later o saw seen since h now later is = (is.0, is.1, news_later o saw seen since is.0 later is.2)

pub none_learnt : (o : Setting) (seen : List Change) (r : Returning) → Learns o seen seen r r
none_learnt o seen r = λ h is. (h, none_on o seen seen h (begins_itself seen), is)

pub no_news_learnt : (o : Setting) (saw seen : List Change) (r : Returning) → IsPrefix saw seen → Learns o saw seen r r
no_news_learnt o saw seen r later = λ h is. (h, none_on o saw seen h later, is)

pub more_learnt : (o : Setting) (saw seen since : List Change) (old mid new : Returning) → Learns o saw seen old mid →
    Learns o seen since mid new → Learns o saw since old new
more_learnt o saw seen since old mid new first then = λ h is.
    let a = first h is in
    let b = then a.0 a.2 in
    (b.0, more_on o saw seen since h a.0 b.0 a.1 b.1, b.2)

-- ---- what the receiver is told

pub looked_learnt : (o : Setting) (saw seen : List Change) (old new : Returning) (rows : List Row) →
    IsPrefix saw seen → rows ≡ table_after o seen →
    ((h : List Happening) → IsReturning old h → IsReturning new (Shown rows ∷ h)) → Learns o saw seen old new
looked_learnt o saw seen old new rows later table told =
    λ h is. (Shown rows ∷ h, (Shown rows ∷ [], refl, (seen, begins_itself seen, table, later)), told h is)

pub not_0 : (n : ℕ) → n ≢ 0 → nat_eq n 0 ≡ false
not_0 n other = grind arith

-- which N is in force: with a 0 no rows are kept
pub rule_learnt : (o : Setting) (seen : List Change) (old new : Returning) (rejoin : ℕ) →
    ((h : List Event) → Follows old.rejoiner h → Follows new.rejoiner (Ruled rejoin ∷ h)) →
    new.rows.items ≡ cond (nat_eq rejoin 0) [] old.rows.items → new.rejoins ≡ old.rejoins →
    new.lookup ≡ old.lookup ++ rejoin ∷ [] → new.inbox ≡ old.inbox → new.period ≡ old.period →
    Learns o seen seen old new
rule_learnt o seen old new rejoin follows rows count answered untaken same = λ h is. (
  Asked rejoin ∷ h,
  (Asked rejoin ∷ [], refl, begins_itself seen),
  (
    follows (events_in h) is.0,
    rows ∙ ap (λ (rows : List Row). cond (nat_eq rejoin 0) [] rows) is.1,
    count ∙ is.2,
    answered ∙ ap (λ (answers : List ℕ). answers ++ rejoin ∷ []) is.3,
    untaken ∙ is.4,
    same ∙ is.5,
  ),
)

-- a member was joined again
pub join_told : (old new : Returning) (id : ℕ) →
    ((h : List Event) → Follows old.rejoiner h → Follows new.rejoiner (Joined id old.period ∷ h)) →
    new.rows.items ≡ old.rows.items → new.rejoins ≡ min (old.rejoins + 1) (2 ^ 64 - 1) → new.lookup ≡ old.lookup →
    new.inbox ≡ old.inbox → new.period ≡ old.period →
    (h : List Happening) → IsReturning old h → IsReturning new (Rejoined id ∷ h)
join_told old new id follows same counted unasked untaken still h is =
    let was : old.rejoins ≡ min (joins_in h) (2 ^ 64 - 1) = is.2 in (
      subst (λ (period : ℕ). Follows new.rejoiner (Joined id period ∷ events_in h)) is.5 (follows (events_in h) is.0),
      same ∙ is.1,
      omega (arith, was, counted),
      unasked ∙ is.3,
      untaken ∙ is.4,
      still ∙ is.5,
    )

-- ---- what the ticker left

-- with these knocks
abbrev pub TellsOf : Kept → Kept → List Note → Type 0
TellsOf first now notes = (h : List Event) → Follows first h → Follows now (with_knocks notes h)

pub none_told : (k : Kept) → TellsOf k k []
none_told k = λ h follows. follows

with_one_more : (notes : List Note) (note : Note) (h : List Event) →
    with_knocks (notes ++ note ∷ []) h ≡ Knocked note.id note.number ∷ with_knocks notes h
with_one_more [] note h = refl
with_one_more (first ∷ notes) note h = with_one_more notes note (Knocked first.id first.number ∷ h)

pub one_more_told : (first old new : Kept) (notes : List Note) (i : ℕ) (note : Note) → i < length notes →
    note ≡ slice_index_or notes i note → TellsOf first old (take i notes) →
    ((h : List Event) → Follows old h → Follows new (Knocked note.id note.number ∷ h)) →
    TellsOf first new (take (i + 1) notes)
one_more_told first old new notes i note within at told grows = λ h follows.
    let next : i + 1 ≡ suc i = omega arith in
    let is : with_knocks (take (i + 1) notes) h ≡ Knocked note.id note.number ∷ with_knocks (take i notes) h =
    ap (λ n. with_knocks (take n notes) h) next
    ∙ (ap (λ l. with_knocks l h) (take-suc notes i note within)
    ∙ (with_one_more (take i notes) (slice_index_or notes i note) h
    ∙ ap (λ (x : Note). Knocked x.id x.number ∷ with_knocks (take i notes) h) (sym at))) in
    let P : List Event → Type 0 = λ l. Follows new l in
    subst P (sym is) (grows (with_knocks (take i notes) h) (told h follows))

table_with : (notes : List Note) (h : List Event) → table_in (with_knocks notes h) ≡ table_in h
table_with [] h = refl
table_with (note ∷ notes) h = table_with notes (Knocked note.id note.number ∷ h)

pub tidings_learnt : (o : Setting) (seen : List Change) (old new : Returning) (tidings : Tidings) →
    TellsOf old.rejoiner new.rejoiner tidings.notes.items → new.rows.items ≡ old.rows.items →
    new.rejoins ≡ old.rejoins → new.lookup ≡ old.lookup → new.inbox ≡ old.inbox ++ tidings ∷ [] →
    new.period ≡ tidings.period → Learns o seen seen old new
tidings_learnt o seen old new tidings told same count unasked taken period = λ h is. (
  Told tidings ∷ h,
  (Told tidings ∷ [], refl, begins_itself seen),
  (
    told (events_in h) is.0,
    same ∙ (is.1 ∙ sym (table_with tidings.notes.items (events_in h))),
    count ∙ is.2,
    unasked ∙ is.3,
    taken ∙ ap (λ (l : List Tidings). l ++ tidings ∷ []) is.4,
    period,
  ),
)
