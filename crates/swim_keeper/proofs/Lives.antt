-- What becomes of lives, one after the other.
use Rattle.std.proofs.Common.{◌≡◌, ◌⊎◌, ℕ, List, [], ◌∷◌, Option, refl, sym, ap, subst, ◌∙◌, inl, inr}
use Rattle.swim_history.specs.Setting.{Setting}
use Rattle.swim_node.specs.Following.{filings_of}
use Rattle.swim_targets.specs.Draws.{DrawsOrder, DrawsPlace, of_seed}
use Rattle.swim_recorder.specs.declared.journal_recorder.JournalRecorder.{JournalRecorder}
use Rattle.swim_recorder.specs.Recording.{AtRecorder, IsRecorded, at_recorder}
use Rattle.swim_crew.specs.declared.pasts.LivesEnd.{LivesEnd}
use Rattle.swim_crew.specs.declared.pasts.Past.{Past}
use Rattle.swim_crew.specs.declared.pasts.Terms.{Terms}
use Rattle.swim_crew.specs.Crews.{CrewAt, Records, Stand, Works, rules}
use Rattle.swim_crew.specs.Draws.{WasDrawn}
use Rattle.swim_crew.specs.Life.{IsLife}
use Rattle.swim_crew.specs.Lives.{AreEnded, AreEndedByLife, AreLived, AreLives, IsKeptLife, number_after, opening_after}
use Rattle.swim_keeper.specs.declared.keepers.LifeKeeper.{LifeKeeper}
use Rattle.swim_keeper.specs.Keeping.{IsOpened, IsSame, Outlets, at_keeper, closes_by, opens_by}
use Rattle.swim_keeper.specs.Keeping.{records_by}
use Rattle.swim_telling.specs.Notices.{Notices, no_notices, notices_both}
use Rattle.swim_keeper.specs.Told.{AreKept, AtLives, EachIsTold, EachLife, IsAnnounced, IsDrawnLife, IsKept}
use Rattle.swim_keeper.specs.Told.{IsWithout, at_lives}

pub same_both : {W F H S : Type 0} (k l m : LifeKeeper W F H S) → IsSame k l → IsSame l m → IsSame k m
same_both k l m first then =
    (then.0 ∙ first.0, then.1 ∙ first.1, then.2 ∙ first.2, then.3 ∙ first.3, then.4 ∙ first.4)

abbrev pub life_drawn : {A B C D : Type 0} (a : Works A) (b : Works B) (c : Works C) (d : Records D) (terms : Terms)
    (life : ℕ) (o : Setting) (old : CrewAt A B C D) (past : Past) (new : CrewAt A B C D) →
    IsLife a b c d o terms.limit old past new →
    WasDrawn DrawsOrder DrawsPlace o (record (of_seed terms.seed) { stream = life }) past.journal.past →
    IsDrawnLife terms life o past
life_drawn a b c d terms life o old past new is drawn = record {
  opening = is.opening;
  within = is.within;
  one = is.one;
  two = is.two;
  three = is.three;
  the_seats = is.the_seats;
  history = is.history;
  met = is.met;
  why = is.why;
  full = is.full;
  drawn = drawn;
}

-- the herald was told of a life that a keeper has opened
pub announced : {W F H S V Q E I Y : Type 0} (out : Outlets W F H S V Y) (life : ℕ) (o : Setting)
    (k l : LifeKeeper W F H S) (d e : JournalRecorder V Q E I Y) → opens_by out k d life o l e →
    IsAnnounced life (at_lives (at_keeper out k) (at_recorder out.heard d))
    (at_lives (at_keeper out l) (at_recorder out.heard e))
announced {V = V} out life o k l d e is = record {
  lines = is.2.lines;
  notices = is.2.notices;
  begun = is.2.begun;
  opened = is.2.opened;
  filed = is.2.filed;
  gallery = ap (λ (r : AtRecorder V). r.gallery) is.2.others;
  heard = ap (λ (r : AtRecorder V). r.heard) is.2.others;
}

module _ {A B C W F H S V Q E I Y : Type 0} (out : Outlets W F H S V Y) (a : Works A) (b : Works B) (c : Works C)
    (law : EachIsTold out.written out.held) where
  abbrev seen : Stand A B C (JournalRecorder V Q E I Y) (LifeKeeper W F H S) → AtLives
  seen s = at_lives (at_keeper out s.keeper) (at_recorder out.heard s.crew.recorder)

  pub life_kept : (terms : Terms) (life : ℕ) (o : Setting) (past : Past)
      (old new : Stand A B C (JournalRecorder V Q E I Y) (LifeKeeper W F H S)) → old.keeper.terms ≡ terms →
      IsKeptLife (rules a b c (records_by out) (opens_by out) (closes_by out)) o terms.limit terms.seed life old past
      new → IsSame old.keeper new.keeper × IsKept out.fresh terms life o past (seen old) (seen new)
  life_kept terms life o past old new is_terms is =
      let begun : AtRecorder V = at_recorder out.heard is.recorder in
      let ended : AtRecorder V = at_recorder out.heard is.crew.recorder in
      let recorded : IsRecorded out.written out.held life o (filings_of past.journal.past) begun ended =
      subst (λ n. IsRecorded out.written out.held n o (filings_of past.journal.past) begun ended) is.opened.1
      is.life.by_recorder in (
        same_both old.keeper is.keeper new.keeper is.opened.0 is.closed.0,
        law out.fresh terms life o past (at_keeper out old.keeper) (at_keeper out is.keeper) (at_keeper out new.keeper)
            (at_recorder out.heard old.crew.recorder) begun ended (at_recorder out.heard new.crew.recorder)
            (life_drawn a b c (records_by out) terms life o (record old.crew { recorder = is.recorder }) past is.crew
            is.life is.drawn)
            (subst (λ (t : Terms). IsOpened out.written out.fresh t life o (at_keeper out old.keeper)
            (at_recorder out.heard old.crew.recorder) (at_keeper out is.keeper) begun) is_terms is.opened.2)
            recorded is.closed.1,
      )

  lives_kept : (terms : Terms) (first : Setting)
      (old : Stand A B C (JournalRecorder V Q E I Y) (LifeKeeper W F H S)) (lives : List Past)
      (new : Stand A B C (JournalRecorder V Q E I Y) (LifeKeeper W F H S)) → old.keeper.terms ≡ terms →
      AreLives (rules a b c (records_by out) (opens_by out) (closes_by out)) first terms.limit terms.seed old lives
      new →
      IsSame old.keeper new.keeper × EachLife (IsKept out.fresh terms) first (seen old) lives (seen new)
  lives_kept terms first old [] new is_terms is = (
    subst (λ (s : Stand A B C (JournalRecorder V Q E I Y) (LifeKeeper W F H S)). IsSame old.keeper s.keeper) (sym is)
        (refl, refl, refl, refl, refl),
    ap seen is,
  )
  lives_kept terms first old (past ∷ before) new is_terms is =
      let earlier = lives_kept terms first old before is.0 is_terms is.1 in
      let last = life_kept terms (number_after before) (opening_after first before) past is.0 new
      (earlier.0.0 ∙ is_terms) is.2 in
      (same_both old.keeper is.0.keeper new.keeper earlier.0 last.0, (seen is.0, earlier.1, last.1))

  last_kept : (first : Setting) (lives : List Past)
      (mid new : Stand A B C (JournalRecorder V Q E I Y) (LifeKeeper W F H S)) (end : LivesEnd) →
      AreEnded (rules a b c (records_by out) (opens_by out) (closes_by out)) first lives mid new end →
      IsSame mid.keeper new.keeper
      × (((seen new ≡ seen mid) × AreEndedByLife lives end)
      ⊎ (IsWithout lives end × IsAnnounced (number_after lives) (seen mid) (seen new)))
  last_kept first lives mid new end (inl last) = (
    subst (λ (s : Stand A B C (JournalRecorder V Q E I Y) (LifeKeeper W F H S)). IsSame mid.keeper s.keeper)
        (sym last.0) (refl, refl, refl, refl, refl),
    inl (ap seen last.0, last.1),
  )
  last_kept first lives mid new end (inr last) = (
    last.2.0.0,
    inr (
      (last.0, last.1),
      announced out (number_after lives) (opening_after first lives) mid.keeper new.keeper mid.crew.recorder
          new.crew.recorder last.2.0,
    ),
  )

  -- a keeper and a recorder whose lives were lived: it has the same of all still, and each life was told
  pub all_kept : (opening : Setting) (old new : Stand A B C (JournalRecorder V Q E I Y) (LifeKeeper W F H S))
      (end : LivesEnd) →
      AreLived (rules a b c (records_by out) (opens_by out) (closes_by out)) opening old.keeper.terms.limit
      old.keeper.terms.seed old new end →
      IsSame old.keeper new.keeper × AreKept out.fresh old.keeper.terms opening (seen old) (seen new) end
  all_kept opening old new end is =
      let lived = lives_kept old.keeper.terms opening old is.lives is.after_lives refl is.lived in
      let last = last_kept opening is.lives is.after_lives new end is.ended
      in (
        same_both old.keeper is.after_lives.keeper new.keeper lived.0 last.0,
        record { lives = is.lives; after_lives = seen is.after_lives; kept = lived.1; ended = last.1 },
      )

-- ---- what people were told

lives_noticed : (fresh : Option (List ℕ)) (terms : Terms) (first : Setting) (old : AtLives) (lives : List Past)
    (new : AtLives) → EachLife (IsKept fresh terms) first old lives new → Notices old.keeper.notices new.keeper.notices
lives_noticed fresh terms first old [] new is =
    subst (λ (s : AtLives). Notices old.keeper.notices s.keeper.notices) (sym is) (no_notices old.keeper.notices)
lives_noticed fresh terms first old (past ∷ before) new is =
    notices_both old.keeper.notices is.0.keeper.notices new.keeper.notices
    (lives_noticed fresh terms first old before is.0 is.1) is.2.notices

last_noticed : (lives : List Past) (mid new : AtLives) (end : LivesEnd) →
    ((new ≡ mid) × AreEndedByLife lives end) ⊎ (IsWithout lives end × IsAnnounced (number_after lives) mid new) →
    Notices mid.keeper.notices new.keeper.notices
last_noticed lives mid new end (inl last) =
    subst (λ (s : AtLives). Notices mid.keeper.notices s.keeper.notices) (sym last.0) (no_notices mid.keeper.notices)
last_noticed lives mid new end (inr last) = last.1.notices

pub all_noticed : (fresh : Option (List ℕ)) (terms : Terms) (opening : Setting) (old new : AtLives) (end : LivesEnd) →
    AreKept fresh terms opening old new end → Notices old.keeper.notices new.keeper.notices
all_noticed fresh terms opening old new end is =
    notices_both old.keeper.notices is.after_lives.keeper.notices new.keeper.notices
    (lives_noticed fresh terms opening old is.lives is.after_lives is.kept)
    (last_noticed is.lives is.after_lives new end is.ended)
