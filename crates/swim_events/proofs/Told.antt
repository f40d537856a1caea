-- What a watcher was told is the table of a beginning of a history, and changes of entries after it.
use Rattle.std.proofs.Common.{◌≡◌, ◌⊎◌, ℕ, List, [], ◌∷◌, ◌++◌, length, map, Option, Some, None, refl, sym, ap, ◌∙◌}
use Rattle.std.proofs.Common.{inl, inr, append_assoc, append-nil, length-append, arith}
use Rattle.std.specs.Option.{option_to_list}
use Rattle.swim_history.specs.declared.rows.Change.{Change}
use Rattle.swim_history.specs.declared.entries.Entry.{Entry}
use Rattle.swim_history.specs.Setting.{Setting}
use Rattle.swim_history.specs.Clock.{period_number}
use Rattle.swim_history.specs.Changes.{change_by, changes, table}
use Rattle.swim_events.specs.declared.watchers.WatcherStanding.{WatcherStanding}
use Rattle.swim_events.specs.declared.watchers.WatcherStanding.TheVariants.{Following, Losing, Lost}
use Rattle.swim_events.specs.Texts.{change_text, changes_text, life_text, table_text}
use Rattle.swim_events.specs.Watchers.{AtWatcher, IsFront, IsStream, Streams}
use Rattle.swim_events.specs.Watched.{IsCutShort, IsTold, IsWatched, IsWatchedOver, Lived, lived_on}

-- a first part of the texts of changes is the texts of their first part
pub record IsPart (changes : List Change) (whole rest : List (List ℕ)) : Type 0 where
  pub first : List Change
  pub more : List Change
  pub cut : changes ≡ first ++ more
  pub texts : map change_text first ≡ whole

part_onto : (change : Change) (changes : List Change) (text : List ℕ) (whole rest : List (List ℕ)) →
    change_text change ≡ text → IsPart changes whole rest → IsPart (change ∷ changes) (text ∷ whole) rest
part_onto change changes text whole rest same part = record {
  first = change ∷ part.first;
  more = part.more;
  cut = ap (λ l. change ∷ l) part.cut;
  texts = rw (part.texts, same) refl;
}

part_of : (changes : List Change) (whole rest : List (List ℕ)) → map change_text changes ≡ whole ++ rest →
    IsPart changes whole rest
part_of changes [] rest is = record { first = []; more = changes; cut = refl; texts = refl }
part_of [] (text ∷ whole) rest is = absurd (cc is)
part_of (change ∷ changes) (text ∷ whole) rest is =
    part_onto change changes text whole rest (cc is) (part_of changes whole rest (cc is))

none_in : {A : Type 0} (first rest : List A) → [] ≡ first ++ rest → rest ≡ []
none_in [] rest none = sym none
none_in (x ∷ first) rest none = absurd (cc none)

-- the last of a list stands in its second part, if that has any
last_in : {A : Type 0} (xs first rest : List A) (x : A) → xs ++ x ∷ [] ≡ first ++ rest →
    (rest ≡ []) ⊎ ((others : List A) × (xs ≡ first ++ others))
last_in xs [] rest x is = inr (xs, refl)
last_in [] (y ∷ first) rest x is = inl (none_in first rest (cc is))
last_in (z ∷ xs) (y ∷ first) rest x is =
    let head : z ≡ y = cc is in
    let tail : xs ++ x ∷ [] ≡ first ++ rest = cc is in
    elim (last_in xs first rest x tail) [
      | inl none ↦ inl none
      | inr found ↦ inr (found.0, ap (λ l. z ∷ l) found.1 ∙ ap (λ v. v ∷ (first ++ found.0)) head)
    ]

-- so many of the changes after a beginning are those after an older history
record Until (o : Setting) (h before : List Entry) (told : List Change) : Type 0 where
  pub newer : List Entry
  pub between : List Entry
  pub cut : h ≡ newer ++ (between ++ before)
  pub told_is : changes o (between ++ before) ≡ told

until : (o : Setting) (newer before : List Entry) (told rest : List Change) (more : List Change) →
    told ≡ changes o before ++ more →
    changes o (newer ++ before) ≡ told ++ rest → Until o (newer ++ before) before told
until o [] before told rest more is all =
    record { newer = []; between = []; cut = refl; told_is = none more rest is all }
  where
    none : (more rest : List Change) → told ≡ changes o before ++ more → changes o before ≡ told ++ rest →
        changes o before ≡ told
    none more [] is all = all ∙ append-nil told
    none more (x ∷ rest) is all =
        absurd (omega (
          arith,
          ap length is,
          ap length all,
          length-append (changes o before) more,
          length-append told (x ∷ rest),
        ))
until o (e ∷ newer) before told rest more is all =
    by (change_by e.call e.reply (period_number o (newer ++ before))) all
    (λ left same. until o newer before told left more is same)
  where
    longer : Until o (newer ++ before) before told → Until o (e ∷ newer ++ before) before told
    longer u = record { newer = e ∷ u.newer; between = u.between; cut = ap (λ l. e ∷ l) u.cut; told_is = u.told_is }

    by : (change : Option Change) → changes o (newer ++ before) ++ option_to_list change ≡ told ++ rest →
        ((left : List Change) → changes o (newer ++ before) ≡ told ++ left → Until o (newer ++ before) before told) →
        Until o (e ∷ newer ++ before) before told
    by None same again = longer (again rest (sym (append-nil (changes o (newer ++ before))) ∙ same))
    by (Some change) same again =
        elim (last_in (changes o (newer ++ before)) told rest change same) [
          | inl none ↦ record {
            newer = [];
            between = e ∷ newer;
            cut = refl;
            told_is = all ∙ ap (λ l. told ++ l) none ∙ append-nil told;
          }
          | inr found ↦ longer (again found.0 found.1)
        ]

changes_texts : (first second : List Change) →
    changes_text first ++ changes_text second ≡ changes_text (first ++ second)
changes_texts [] second = refl
changes_texts (change ∷ first) second =
    append_assoc (change_text change) (changes_text first) (changes_text second)
    ∙ ap (λ l. change_text change ++ l) (changes_texts first second)

-- a table, and the changes behind it
pub watched_first : (o : Setting) (h : List Entry) → IsWatched o h (table_text (table o h))
watched_first o h = record {
  newer = [];
  before = h;
  cut = refl;
  later = [];
  goes_on = sym (append-nil (changes o h));
  text_is = sym (append-nil (table_text (table o h)));
}

pub watched_more : (o : Setting) (h : List Entry) (e : Entry) (text : List ℕ) → IsWatched o h text →
    IsWatched o (e ∷ h) (text ++ changes_text (option_to_list (change_by e.call e.reply (period_number o h))))
watched_more o h e text is =
    let change = option_to_list (change_by e.call e.reply (period_number o h)) in record {
      newer = e ∷ is.newer;
      before = is.before;
      cut = ap (λ l. e ∷ l) is.cut;
      later = is.later ++ change;
      goes_on = ap (λ l. l ++ change) is.goes_on ∙ append_assoc (changes o is.before) is.later change;
      text_is =
          ap (λ l. l ++ changes_text change) is.text_is
          ∙ append_assoc (table_text (table o is.before)) (changes_text is.later) (changes_text change)
          ∙ ap (λ l. table_text (table o is.before) ++ l) (changes_texts is.later change);
    }

-- a part of the changes after a beginning
part_after : (o : Setting) (h newer before : List Entry) (later first more : List Change) → h ≡ newer ++ before →
    changes o h ≡ changes o before ++ later → later ≡ first ++ more →
    changes o (newer ++ before) ≡ (changes o before ++ first) ++ more
part_after o h newer before later first more cut goes_on part =
    rw (← cut, goes_on, part) (sym (append_assoc (changes o before) first more))

-- a front of the texts
cut_short : (o : Setting) (h newer before : List Entry) (later : List Change) (stream : List ℕ) → h ≡ newer ++ before →
    changes o h ≡ changes o before ++ later → IsFront (table_text (table o before)) (map change_text later) stream →
    IsCutShort o h stream
cut_short o h newer before later stream cut goes_on front =
    by (part_of later front.whole (front.unfit ∷ front.rest) front.cut)
  where
    told_until : (first : List Change) → map change_text first ≡ front.whole →
        Until o (newer ++ before) before (changes o before ++ first) →
        IsCutShort o h stream
    told_until first texts u = record {
      newer = u.newer;
      older = u.between ++ before;
      cut = cut ∙ u.cut;
      watched = record {
        newer = u.between;
        before = before;
        cut = refl;
        later = first;
        goes_on = u.told_is;
        text_is = rw (front.stream_is, texts) refl;
      };
    }

    by : IsPart later front.whole (front.unfit ∷ front.rest) → IsCutShort o h stream
    by part =
        told_until part.first part.texts
        (until o newer before (changes o before ++ part.first) part.more part.first refl
        (part_after o h newer before later part.first part.more cut goes_on part.cut))

-- what a watcher was told
pub told : (o : Setting) (h newer before : List Entry) (later : List Change) (sent : List ℕ) (w : AtWatcher) →
    h ≡ newer ++ before →
    changes o h ≡ changes o before ++ later → IsStream (table_text (table o before)) (map change_text later) sent w →
    IsTold w.standing o h (sent ++ w.pending)
told o h newer before later sent w cut goes_on is = by w.standing (sent ++ w.pending) is
  where
    by : (standing : WatcherStanding) (stream : List ℕ) →
        Streams standing (table_text (table o before)) (map change_text later) stream →
        IsTold standing o h stream
    by Following stream is =
        record { newer = newer; before = before; cut = cut; later = later; goes_on = goes_on; text_is = is }
    by Losing stream is = cut_short o h newer before later stream cut goes_on is
    by Lost stream is = (is.0, cut_short o h newer before later is.0 cut goes_on is.1, is.2)

-- ---- over lives

pub over_begins : (lives : List Lived) (number : ℕ) (o : Setting) (text : List ℕ) → IsWatchedOver lives text →
    IsWatchedOver (record { number = number; opening = o; past = [] } ∷ lives) (text ++ life_text number)
over_begins [] number o text is = absurd is
over_begins (before ∷ older) number o text is = (text, is, ap (λ l. text ++ l) (sym (append-nil (life_text number))))

pub over_goes_on : (life : Lived) (older : List Lived) (e : Entry) (text : List ℕ) → IsWatchedOver (life ∷ older) text →
    IsWatchedOver (lived_on life e ∷ older)
    (text ++ changes_text (option_to_list (change_by e.call e.reply (period_number life.opening life.past))))
over_goes_on life [] e text is = watched_more life.opening life.past e text is
over_goes_on life (before ∷ older) e text is = (is.0, is.1, longer)
  where
    more : List Change
    more = option_to_list (change_by e.call e.reply (period_number life.opening life.past))

    past : List Change
    past = changes life.opening life.past

    longer : text ++ changes_text more ≡ is.0 ++ (life_text life.number ++ changes_text (past ++ more))
    longer =
        ap (λ l. l ++ changes_text more) is.2
        ∙ append_assoc is.0 (life_text life.number ++ changes_text past) (changes_text more)
        ∙ ap (λ l. is.0 ++ l) (append_assoc (life_text life.number) (changes_text past) (changes_text more)
        ∙ ap (λ l. life_text life.number ++ l) (changes_texts past more))
