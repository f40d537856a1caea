-- Watchers over lives, as these go on by entries, as a life follows, and as bytes are sent.
use Rattle.std.proofs.Common.{◌≡◌, ℕ, List, [], ◌∷◌, ◌++◌, map, take, Bool, true, false, Option, Some, None}
use Rattle.std.proofs.Common.{refl, sym, ap, subst, ◌∙◌, append_assoc, append-nil}
use Rattle.std.proofs.lemmas.List.Folds.{concat-append}
use Rattle.std.specs.List.{concat}
use Rattle.std.specs.Option.{option_to_list}
use Rattle.swim_history.specs.declared.rows.Row.{Row}
use Rattle.swim_history.specs.declared.rows.Change.{Change}
use Rattle.swim_history.specs.declared.entries.Entry.{Entry}
use Rattle.swim_history.specs.Setting.{Setting}
use Rattle.swim_history.specs.Clock.{period_number}
use Rattle.swim_history.specs.Changes.{change_by, changes, table}
use Rattle.swim_trail.specs.Growing.{Grows}
use Rattle.swim_events.specs.declared.outlets.Offer.{Offer}
use Rattle.swim_events.specs.declared.outlets.Offer.TheVariants.{Took, Full, Gone}
use Rattle.swim_events.specs.declared.watchers.WatcherStanding.TheVariants.{Following}
use Rattle.swim_events.specs.Texts.{change_text, life_text, table_text}
use Rattle.swim_events.specs.Watchers.{AtWatcher, IsStream, after_sent, after_text}
use Rattle.swim_events.specs.Guests.{AreSent, AtGuest, IsTurn, IsUntaken, Offering, kept_if, newcomer}
use Rattle.swim_events.specs.Guests.{put_text, told_of}
use Rattle.swim_events.specs.Watched.{IsWatchedOver, Lived, lived_on}
use Rattle.swim_events.specs.Telling.{AreTexts, AreTextsOver, AreTold, IsGuestTold, IsTaken, IsTelling, IsTellingOver}
use Rattle.swim_events.specs.Telling.{life_texts}
use Rattle.swim_events.proofs.Streaming.{put_streams, sent_streams}

texts_both : (first second : List Change) →
    map change_text first ++ map change_text second ≡ map change_text (first ++ second)
texts_both [] second = refl
texts_both (change ∷ first) second = ap (λ l. change_text change ∷ l) (texts_both first second)

-- the texts of an entry more
abbrev more_of : Lived → Entry → List Change
more_of life e = option_to_list (change_by e.call e.reply (period_number life.opening life.past))

first_texts : (life : Lived) (e : Entry) (first : List ℕ) (texts : List (List ℕ)) → AreTexts life first texts →
    AreTexts (lived_on life e) first (texts ++ map change_text (more_of life e))
first_texts life e first texts are = record {
  newer = e ∷ are.newer;
  before = are.before;
  cut = ap (λ l. e ∷ l) are.cut;
  later = are.later ++ more_of life e;
  goes_on =
      ap (λ l. l ++ more_of life e) are.goes_on
      ∙ append_assoc (changes life.opening are.before) are.later (more_of life e);
  first_is = are.first_is;
  texts_are = ap (λ l. l ++ map change_text (more_of life e)) are.texts_are ∙ texts_both are.later (more_of life e);
}

texts_next : (life : Lived) (older : List Lived) (e : Entry) (first : List ℕ) (texts : List (List ℕ)) →
    AreTextsOver (life ∷ older) first texts →
    AreTextsOver (lived_on life e ∷ older) first (texts ++ map change_text (more_of life e))
texts_next life [] e first texts are = first_texts life e first texts are
texts_next life (before ∷ older) e first texts are = (are.0, are.1, longer)
  where
    longer : texts ++ map change_text (more_of life e) ≡ are.0 ++ life_texts (lived_on life e)
    longer =
        ap (λ l. l ++ map change_text (more_of life e)) are.2
        ∙ append_assoc are.0 (life_texts life) (map change_text (more_of life e))
        ∙ ap (λ l. are.0 ++ life_text life.number ∷ l) (texts_both (changes life.opening life.past) (more_of life e))

-- the watcher after a change, if there is one
abbrev told_then : Option Change → AtWatcher → AtWatcher
told_then None w = w
told_then (Some change) w = after_text (change_text change) w

stream_next : (change : Option Change) (first : List ℕ) (texts : List (List ℕ)) (sent : List ℕ) (w : AtWatcher) →
    IsStream first texts sent w →
    IsStream first (texts ++ map change_text (option_to_list change)) sent (told_then change w)
stream_next None first texts sent w is =
    subst (λ (l : List (List ℕ)). IsStream first l sent w) (sym (append-nil texts)) is
stream_next (Some change) first texts sent w is = put_streams first texts sent (change_text change) w is

telling_next : (life : Lived) (older : List Lived) (e : Entry) (change : Option Change) (sent : List ℕ)
    (w : AtWatcher) →
    change_by e.call e.reply (period_number life.opening life.past) ≡ change → IsTellingOver (life ∷ older) sent w →
    IsTellingOver (lived_on life e ∷ older) sent (told_then change w)
telling_next life older e change sent w made is = by is.since is.cut is.are
  where
    by : (since : List Lived) → life ∷ older ≡ since ++ is.older → AreTextsOver since is.first is.texts →
        IsTellingOver (lived_on life e ∷ older) sent (told_then change w)
    by [] cut are = absurd are
    by (newest ∷ since) cut are =
        let same : newest ≡ life = sym (cc cut) in
        record {
          since = lived_on life e ∷ since;
          older = is.older;
          cut = ap (λ l. lived_on life e ∷ l) (cc cut);
          first = is.first;
          texts = is.texts ++ map change_text (option_to_list change);
          are = subst (λ c. AreTextsOver (lived_on life e ∷ since) is.first
              (is.texts ++ map change_text (option_to_list c))) made
              (texts_next life since e is.first is.texts
              (subst (λ (l : Lived). AreTextsOver (l ∷ since) is.first is.texts) same are));
          stream = stream_next change is.first is.texts sent w is.stream;
        }

-- all who watch, an entry on
pub told_next : (life : Lived) (older : List Lived) (e : Entry) (change : Option Change) (guests : List AtGuest) →
    change_by e.call e.reply (period_number life.opening life.past) ≡ change → AreTold (life ∷ older) guests →
    AreTold (lived_on life e ∷ older) (told_of change guests)
told_next life older e None [] made are = tt
told_next life older e (Some change) [] made are = tt
told_next life older e None (g ∷ guests) made are = (
  (are.0.0, are.0.1, telling_next life older e None are.0.0 g.watcher made are.0.2),
  told_next life older e None guests made are.1,
)
told_next life older e (Some change) (g ∷ guests) made are = (
  (are.0.0, are.0.1, telling_next life older e (Some change) are.0.0 g.watcher made are.0.2),
  told_next life older e (Some change) guests made are.1,
)

telling_life : (lives : List Lived) (number : ℕ) (o : Setting) (sent : List ℕ) (w : AtWatcher) →
    IsTellingOver lives sent w →
    IsTellingOver (record { number = number; opening = o; past = [] } ∷ lives) sent (after_text (life_text number) w)
telling_life lives number o sent w is = record {
  since = begun ∷ is.since;
  older = is.older;
  cut = ap (λ l. begun ∷ l) is.cut;
  first = is.first;
  texts = is.texts ++ life_text number ∷ [];
  are = by is.since is.are;
  stream = put_streams is.first is.texts sent (life_text number) w is.stream;
}
  where
    begun : Lived
    begun = record { number = number; opening = o; past = [] }

    by : (since : List Lived) → AreTextsOver since is.first is.texts →
        AreTextsOver (record { number = number; opening = o; past = [] } ∷ since) is.first
        (is.texts ++ life_text number ∷ [])
    by [] are = absurd are
    by (before ∷ since) are = (is.texts, are, refl)

-- all who watch, as a life follows
pub told_life : (lives : List Lived) (number : ℕ) (o : Setting) (guests : List AtGuest) → AreTold lives guests →
    AreTold (record { number = number; opening = o; past = [] } ∷ lives) (map (put_text (life_text number)) guests)
told_life lives number o [] are = tt
told_life lives number o (g ∷ guests) are = (
  (are.0.0, are.0.1, telling_life lives number o are.0.0 g.watcher are.0.2),
  told_life lives number o guests are.1,
)

-- who has come in a life is told of it from there on
untaken : (taken : Option (List ℕ)) → IsUntaken taken → IsTaken taken []
untaken None none = tt
untaken (Some taken) none = sym none

pub told_newcomer : (life : Lived) (older : List Lived) (rows : List Row) (taken : Option (List ℕ))
    (offers : Option (List Offering)) →
    rows ≡ table life.opening life.past → IsUntaken taken → IsGuestTold (life ∷ older) (newcomer rows taken offers)
told_newcomer life older rows taken offers are none = (
  [],
  untaken taken none,
  record {
    since = life ∷ [];
    older = older;
    cut = refl;
    first = table_text rows;
    texts = [];
    are = record {
      newer = [];
      before = life.past;
      cut = refl;
      later = [];
      goes_on = sym (append-nil (changes life.opening life.past));
      first_is = ap table_text are;
      texts_are = refl;
    };
    stream = sym (append-nil (table_text rows));
  },
)

pub told_with : (lives : List Lived) (guests : List AtGuest) (g : AtGuest) → AreTold lives guests →
    IsGuestTold lives g →
    AreTold lives (guests ++ g ∷ [])
told_with lives [] g are is = (is, tt)
told_with lives (first ∷ guests) g are is = (are.0, told_with lives guests g are.1 is)

-- what an outlet took more
taken_more : (old new : Option (List ℕ)) (sent more : List ℕ) → IsTaken old sent → Grows old new more →
    IsTaken new (sent ++ more)
taken_more None None sent more is grows = tt
taken_more None (Some new) sent more is grows = absurd grows
taken_more (Some old) None sent more is grows = absurd grows
taken_more (Some old) (Some new) sent more is grows = ap (λ l. l ++ more) is ∙ sym grows

taken_none : (old new : Option (List ℕ)) (sent : List ℕ) → IsTaken old sent → Grows old new [] → IsTaken new sent
taken_none None None sent is grows = tt
taken_none None (Some new) sent is grows = absurd grows
taken_none (Some old) None sent is grows = absurd grows
taken_none (Some old) (Some new) sent is grows = is ∙ sym (append-nil old) ∙ sym grows

telling_sent : (lives : List Lived) (sent : List ℕ) (count : ℕ) (w : AtWatcher) → IsTellingOver lives sent w →
    IsTellingOver lives (sent ++ take count w.pending) (after_sent count w)
telling_sent lives sent count w is = record {
  since = is.since;
  older = is.older;
  cut = is.cut;
  first = is.first;
  texts = is.texts;
  are = is.are;
  stream = sent_streams is.first is.texts sent count w is.stream;
}

told_turn : (time : ℕ) (lives : List Lived) (old new : AtGuest) (offer : Offer) (goes_on : Bool) →
    IsTurn time old offer new goes_on → IsGuestTold lives old → IsGuestTold lives new
told_turn time lives old new (Took count) goes_on turn is = (
  is.0 ++ take count old.watcher.pending,
  taken_more old.taken new.taken is.0 (take count old.watcher.pending) is.1 turn.takes.1,
  subst (λ (w : AtWatcher). IsTellingOver lives (is.0 ++ take count old.watcher.pending) w) (sym turn.watcher)
      (telling_sent lives is.0 count old.watcher is.2),
)
told_turn time lives old new Full goes_on turn is = (
  is.0,
  taken_none old.taken new.taken is.0 is.1 turn.takes,
  subst (λ (w : AtWatcher). IsTellingOver lives is.0 w) (sym turn.watcher) is.2,
)
told_turn time lives old new Gone goes_on turn is = (
  is.0,
  taken_none old.taken new.taken is.0 is.1 turn.takes,
  subst (λ (w : AtWatcher). IsTellingOver lives is.0 w) (sym turn.watcher) is.2,
)

told_kept : (lives : List Lived) (goes_on : Bool) (g : AtGuest) (rest : List AtGuest) → IsGuestTold lives g →
    AreTold lives rest →
    AreTold lives (kept_if goes_on g ++ rest)
told_kept lives true g rest is are = (is, are)
told_kept lives false g rest is are = are

-- all who watch, as bytes are sent
pub told_sent : (time : ℕ) (lives : List Lived) (old new : List AtGuest) → AreSent time old new → AreTold lives old →
    AreTold lives new
told_sent time lives [] new sent are = subst (λ (l : List AtGuest). AreTold lives l) (sym sent) tt
told_sent time lives (first ∷ others) new sent are =
    subst (λ (l : List AtGuest). AreTold lives l) (sym sent.4.2)
    (told_kept lives sent.2 sent.1 sent.4.0 (told_turn time lives first sent.1 sent.0 sent.2 sent.3 are.0)
    (told_sent time lives others sent.4.0 sent.4.1 are.1))

-- ---- what who keeps up was told

watched_texts : (since : List Lived) (first : List ℕ) (texts : List (List ℕ)) → AreTextsOver since first texts →
    IsWatchedOver since (first ++ concat texts)
watched_texts [] first texts are = absurd are
watched_texts (life ∷ []) first texts are = record {
  newer = are.newer;
  before = are.before;
  cut = are.cut;
  later = are.later;
  goes_on = are.goes_on;
  text_is = rw (are.first_is, are.texts_are) refl;
}
watched_texts (life ∷ before ∷ older) first texts are = (
  first ++ concat are.0,
  watched_texts (before ∷ older) first are.0 are.1,
  ap (λ (l : List (List ℕ)). first ++ concat l) are.2
      ∙ ap (λ l. first ++ l) (concat-append are.0 (life_texts life))
      ∙ sym (append_assoc first (concat are.0) (concat (life_texts life))),
)

pub told_all : (lives : List Lived) (sent : List ℕ) (w : AtWatcher) → IsTellingOver lives sent w →
    w.standing ≡ Following →
    (since : List Lived) × (older : List Lived) × (lives ≡ since ++ older) × IsWatchedOver since (sent ++ w.pending)
told_all lives sent w is keeps =
    let stream : sent ++ w.pending ≡ is.first ++ concat is.texts = rw keeps at is.stream in (
      is.since,
      is.older,
      is.cut,
      subst (λ (t : List ℕ). IsWatchedOver is.since t) (sym stream) (watched_texts is.since is.first is.texts is.are),
    )

-- who came in the only life is told its history
pub told_of_one : (life : Lived) (sent : List ℕ) (w : AtWatcher) → IsTellingOver (life ∷ []) sent w →
    IsTelling life.opening life.past sent w
told_of_one life sent w is = by is.since is.cut is.are
  where
    by : (since : List Lived) → life ∷ [] ≡ since ++ is.older → AreTextsOver since is.first is.texts →
        IsTelling life.opening life.past sent w
    by [] cut are = absurd are
    by (newest ∷ []) cut are =
        let same : newest ≡ life = sym (cc cut) in
        let texts = subst (λ (l : Lived). AreTexts l is.first is.texts) same are in
        record {
          newer = texts.newer;
          before = texts.before;
          cut = texts.cut;
          later = texts.later;
          goes_on = texts.goes_on;
          stream = rw (← texts.first_is, ← texts.texts_are) is.stream;
        }
    by (newest ∷ before ∷ since) cut are = absurd (cc cut)
