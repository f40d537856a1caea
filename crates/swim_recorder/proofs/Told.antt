-- Those who watch a life, as its journal is read and as bytes are sent, and the reporter who hears of it.
use Rattle.std.proofs.Common.{◌≡◌, ℕ, Bool, true, false, List, [], ◌∷◌, ◌++◌, map, MatchBool, Option, Some, None}
use Rattle.std.proofs.Common.{refl, sym, ap, subst, ◌∙◌, append-nil}
use Rattle.std.specs.Option.{option_to_list}
use Rattle.std.proofs.lemmas.List.{map-append, same_from_push}
use Rattle.swim_history.specs.declared.rows.Change.{Change}
use Rattle.swim_history.specs.declared.rows.Row.{Row}
use Rattle.swim_history.specs.declared.entries.Entry.{Entry}
use Rattle.swim_history.specs.declared.seats.Kept.{Kept}
use Rattle.swim_history.specs.Changes.{change_by, changes, table}
use Rattle.swim_history.specs.Clock.{period_number}
use Rattle.swim_history.specs.Run.{IsRun}
use Rattle.swim_history.specs.Setting.{Setting, IsSetting}
use Rattle.swim_trail.specs.Growing.{Grows, grows_both}
use Rattle.swim_node.specs.Cells.{Filing}
use Rattle.swim_node.specs.Following.{filing_of, filings_of}
use Rattle.swim_events.specs.Guests.{AreSent, AtGuest, Offering, newcomer, put_text, told_of}
use Rattle.swim_events.specs.Telling.{AreTold, life_texts}
use Rattle.swim_events.specs.Texts.{change_text, life_text}
use Rattle.swim_events.specs.Watched.{Lived, lived_on}
use Rattle.swim_events.specs.Watching.{Known, known}
use Rattle.swim_recorder.specs.Recording.{Tells, TellsAll}
use Rattle.swim_recorder.specs.Reports.{Report, Began, Called, life_reports}
use Rattle.swim_recorder.specs.Watched.{Happened, IsCourse, Put, Comes, Turn, lived}

not_empty : {A : Type 0} (xs : List A) (x : A) → [] ≡ xs ++ x ∷ [] → ⊥
not_empty [] x is = cc is
not_empty (y ∷ xs) x is = cc is

-- ---- what becomes of those who watch

-- the texts of a life with an entry that makes this change, or none
texts_on : (life : Lived) (e : Entry) (change : Option Change) →
    change_by e.call e.reply (period_number life.opening life.past) ≡ change →
    life_texts (lived_on life e) ≡ life_texts life ++ map change_text (option_to_list change)
texts_on life e change made =
    let before = changes life.opening life.past in
    ap (λ (c : Option Change). life_text life.number ∷ map change_text (before ++ option_to_list c)) made
    ∙ ap (λ (l : List (List ℕ)). life_text life.number ∷ l) (map-append change_text before (option_to_list change))

course_on : (life : Lived) (e : Entry) (guests were now : List AtGuest) (change : Option Change) →
    change_by e.call e.reply (period_number life.opening life.past) ≡ change → now ≡ told_of change were →
    IsCourse life guests were → IsCourse (lived_on life e) guests now
course_on life e guests were now None made is was = record {
  all = was.all;
  happened = subst (λ (gs : List AtGuest). Happened was.all guests gs) (sym is) was.happened;
  texts = was.texts ∙ sym (texts_on life e None made ∙ append-nil (life_texts life));
}
course_on life e guests were now (Some change) made is was = record {
  all = Put (change_text change) ∷ was.all;
  happened = (were, was.happened, is);
  texts = ap (λ (l : List (List ℕ)). l ++ change_text change ∷ []) was.texts ∙ sym (texts_on life e (Some change) made);
}

course_comes : (life : Lived) (guests were now : List AtGuest) (rows : List Row) (taken : Option (List ℕ))
    (offers : Option (List Offering)) (is_in : Bool) →
    MatchBool is_in (now ≡ were ++ newcomer rows taken offers ∷ []) (now ≡ were) → IsCourse life guests were →
    IsCourse life guests now
course_comes life guests were now rows taken offers true is was =
    record { all = Comes rows taken offers ∷ was.all; happened = (were, was.happened, is); texts = was.texts }
course_comes life guests were now rows taken offers false is was =
    subst (λ (gs : List AtGuest). IsCourse life guests gs) (sym is) was

-- ---- what is told

-- a life begins: nothing of it was read
pub none_told : (number : ℕ) (o : Setting) (guests now : List AtGuest) (heard hears : Option (List Report))
    (w : Known) →
    w ≡ known o [] → now ≡ map (put_text (life_text number)) guests →
    ((lives : List Lived) → AreTold lives guests → AreTold (lived number o [] ∷ lives) now) →
    Grows heard hears (Began o ∷ []) → TellsAll number o guests heard [] w now hears
none_told number o guests now heard hears w knows put told begins [] s run are = record {
  knows = knows;
  told = told;
  course = record { all = Put (life_text number) ∷ []; happened = (guests, refl, put); texts = refl };
  reported = begins;
}
none_told number o guests now heard hears w knows put told begins (e ∷ h) s run are =
    absurd (not_empty (filings_of h) (filing_of h e) (sym are))

-- the reporter heard nothing more
pub rested_told : (number : ℕ) (o : Setting) (guests : List AtGuest) (heard hears rests : Option (List Report))
    (read : List Filing) (w : Known) (now : List AtGuest) → rests ≡ hears →
    TellsAll number o guests heard read w now hears → TellsAll number o guests heard read w now rests
rested_told number o guests heard hears rests read w now same tells =
    subst (λ (l : Option (List Report)). TellsAll number o guests heard read w now l) (sym same) tells

-- a call more was read, its change told, and the reporter heard of it
pub next_told : (number : ℕ) (o : Setting) (guests : List AtGuest) (heard hears more : Option (List Report))
    (read : List Filing) (f : Filing) (k : Kept) (change : Option Change) (old w : Known) (were now : List AtGuest) →
    f.kept ≡ k →
    ((s : Setting) (h : List Entry) (e : Entry) → IsSetting s → IsRun s (e ∷ h) → e.call ≡ k.call →
    e.reply ≡ k.reply → old ≡ known s h → w ≡ known s (e ∷ h)) →
    ((life : Lived) (older : List Lived) (e : Entry) → e.call ≡ k.call → e.reply ≡ k.reply →
    old ≡ known life.opening life.past → AreTold (life ∷ older) were → AreTold (lived_on life e ∷ older) now) →
    now ≡ told_of change were → change ≡ change_by k.call k.reply old.number → Grows hears more (Called f change ∷ []) →
    TellsAll number o guests heard read old were hears → TellsAll number o guests heard (read ++ f ∷ []) w now more
next_told number o guests heard hears more read f k change old w were now kept knows told put change_is grows tells = by
  where
    by : (h : List Entry) → IsSetting o → IsRun o h → filings_of h ≡ read ++ f ∷ [] →
        Tells number o h guests heard w now more
    by [] s run are = absurd (not_empty read f are)
    by (e ∷ h) s run are =
        let same = same_from_push (filings_of h) read (filing_of h e) f are in
        let was = tells h s run.1 same.0 in
        let kept_is : (filing_of h e).kept ≡ k = ap (λ (g : Filing). g.kept) same.1 ∙ kept in
        let call : e.call ≡ k.call = ap (λ (x : Kept). x.call) kept_is in
        let reply : e.reply ≡ k.reply = ap (λ (x : Kept). x.reply) kept_is in
        let period : old.number ≡ period_number o h = ap (λ (x : Known). x.number) was.knows in
        let made : change_by e.call e.reply (period_number o h) ≡ change =
        rw (call, reply, change_is, period) refl in
        let report : Called (filing_of h e) (change_by e.call e.reply (period_number o h)) ≡ Called f change =
        rw (same.1, made) refl in record {
          knows = knows o h e s run call reply was.knows;
          told = λ older first. told (lived number o h) older e call reply was.knows (was.told older first);
          course = course_on (lived number o h) e guests were now change made put was.course;
          reported = grows_both heard hears more (life_reports o h)
              (Called (filing_of h e) (change_by e.call e.reply (period_number o h)) ∷ []) was.reported
              (subst (λ (r : Report). Grows hears more (r ∷ [])) (sym report) grows);
        }

-- one has come, who is told what is known
pub newcomer_told : (number : ℕ) (o : Setting) (guests : List AtGuest) (heard hears : Option (List Report))
    (read : List Filing) (w : Known) (were now : List AtGuest) (rows : List Row) (taken : Option (List ℕ))
    (offers : Option (List Offering)) (is_in : Bool) → rows ≡ w.rows →
    MatchBool is_in (now ≡ were ++ newcomer rows taken offers ∷ []) (now ≡ were) →
    ((life : Lived) (older : List Lived) → rows ≡ table life.opening life.past → AreTold (life ∷ older) were →
    AreTold (life ∷ older) now) →
    TellsAll number o guests heard read w were hears → TellsAll number o guests heard read w now hears
newcomer_told number o guests heard hears read w were now rows taken offers is_in are comes told tells =
    λ h s run read_is.
    let was = tells h s run read_is in record {
      knows = was.knows;
      told = λ older first.
          told (lived number o h) older (are ∙ ap (λ (k : Known). k.rows) was.knows) (was.told older first);
      course = course_comes (lived number o h) guests were now rows taken offers is_in comes was.course;
      reported = was.reported;
    }

-- each had a turn
pub sent_told : (number : ℕ) (o : Setting) (guests : List AtGuest) (heard hears : Option (List Report))
    (read : List Filing) (w : Known) (were now : List AtGuest) (time : ℕ) → AreSent time were now →
    ((lives : List Lived) → AreTold lives were → AreTold lives now) →
    TellsAll number o guests heard read w were hears → TellsAll number o guests heard read w now hears
sent_told number o guests heard hears read w were now time sent told tells =
    λ h s run read_is.
    let was = tells h s run read_is in record {
      knows = was.knows;
      told = λ older first. told (lived number o h ∷ older) (was.told older first);
      course = record {
        all = Turn time ∷ was.course.all;
        happened = (were, was.course.happened, sent);
        texts = was.course.texts;
      };
      reported = was.reported;
    }
