-- What operators' connections give over lives becomes the calls of the third seats.
use Rattle.std.proofs.Common.{◌≡◌, ◌⊎◌, ℕ, List, [], ◌∷◌, ◌++◌, Option, refl, sym, ap, subst, ◌∙◌, inl, inr}
use Rattle.std.proofs.Common.{append_assoc, append-nil}
use Rattle.std.specs.List.{AllByRecursion}
use Rattle.swim_history.specs.declared.seats.Kept.{Kept}
use Rattle.swim_history.specs.Changes.{changes}
use Rattle.swim_history.specs.Seats.{kept_of}
use Rattle.swim_history.specs.Setting.{Setting}
use Rattle.swim_control.specs.SideBySide.{Called}
use Rattle.swim_control.specs.Talks.{Talks}
use Rattle.swim_desk.specs.Connected.{BecomeSo}
use Rattle.swim_desk.specs.Desk.{ShowsOf}
use Rattle.swim_desk.specs.Given.{AreAnsweredSoFar}
use Rattle.swim_desk.proofs.Shown.{all_later}
use Rattle.swim_crew.specs.declared.pasts.LivesEnd.{LivesEnd}
use Rattle.swim_crew.specs.declared.pasts.Past.{Past}
use Rattle.swim_crew.specs.declared.pasts.Terms.{Terms}
use Rattle.swim_crew.specs.Lives.{AreEndedByLife, number_after, opening_after}
use Rattle.swim_keeper.specs.Told.{EachLife, IsAnnounced, IsDrawnLife, IsWithout}
use Rattle.swimd.specs.DaemonLives.{AnswersLives, AtDaemon, IsDaemonLife, WasTold, operators_calls}

-- calls of desks, and others before them, became their calls of the seats
become_both : (more log : List Called) (made before : List Kept) → BecomeSo more made → BecomeSo log before →
    BecomeSo (more ++ log) (before ++ made)
become_both [] log made before is was =
    subst (BecomeSo log) (sym (ap (λ l. before ++ l) is ∙ append-nil before)) was
become_both (c ∷ more) log made before is was = (
  before ++ is.0,
  is.1,
  ap (λ l. before ++ l) is.2 ∙ sym (append_assoc before is.0 is.1),
  become_both more log is.0 before is.3 was,
  is.4,
)

-- calls that were told in the newest life, and others that were told in those before it
told_both : (past : Past) (before : List Past) (more log : List Called) →
    AllByRecursion
    (λ c. ShowsOf past.journal.opening (changes past.journal.opening past.journal.past) c.told) more →
    AllByRecursion (λ c. WasTold before c.told) log → AllByRecursion (λ c. WasTold (past ∷ before) c.told) (more ++ log)
told_both past before [] [] is was = tt
told_both past before [] (c ∷ log) is was = (inr was.0, told_both past before [] log is was.1)
told_both past before (c ∷ more) log is was = (inl is.0, told_both past before more log is.1 was)

-- the third seat of a life made the calls that its journal has of it
third_calls : (terms : Terms) (life : ℕ) (o : Setting) (past : Past) (is : IsDrawnLife terms life o past) →
    is.three.calls ≡ kept_of 2 past.journal.past
third_calls terms life o past is =
    let number : is.three.number ≡ 2 = cc is.the_seats in
    is.history.calls.1.1.0 ∙ ap (λ (n : ℕ). kept_of n past.journal.past) number

lines_lived : (fresh : Option (List ℕ)) (terms : Terms) (opening : Setting) (old : AtDaemon) (lives : List Past)
    (new : AtDaemon) → EachLife (IsDaemonLife fresh terms) opening old lives new → (log : List Called) →
    AreAnsweredSoFar log old.controlling.connections → AnswersLives log lives new.controlling.connections
lines_lived fresh terms opening old [] new is log all = record {
  more = [];
  answered = subst (λ (d : AtDaemon). AreAnsweredSoFar log d.controlling.connections) (sym is) all;
  become = refl;
  told = tt;
}
lines_lived fresh terms opening old (past ∷ before) new is log all =
    let earlier = lines_lived fresh terms opening old before is.0 is.1 log all in
    let life = is.2 in
    let last = life.controlled.given (earlier.more ++ log) earlier.answered in
    let calls = third_calls terms (number_after before) (opening_after opening before) past life.lived in
    let h = past.journal.past in
    let shown = all_later (opening_after opening before) life.controlled.seen (changes (opening_after opening before) h)
    last.more life.controlled.begins last.shown in
    record {
      more = last.more ++ earlier.more;
      answered = subst (λ (l : List Called). AreAnsweredSoFar l new.controlling.connections)
          (sym (append_assoc last.more earlier.more log)) last.answered;
      become = become_both last.more earlier.more (kept_of 2 past.journal.past) (operators_calls before)
          (subst (BecomeSo last.more) calls last.become) earlier.become;
      told = told_both past before last.more earlier.more
          (subst (λ (o : Setting). AllByRecursion (λ c. ShowsOf o (changes o h) c.told) last.more)
          (sym life.lived.opening) shown) earlier.told;
    }

pub all_lines : (fresh : Option (List ℕ)) (terms : Terms) (opening : Setting) (old : AtDaemon) (lives : List Past)
    (after_lives new : AtDaemon) (end : LivesEnd) → EachLife (IsDaemonLife fresh terms) opening old lives after_lives →
    ((new ≡ after_lives) × AreEndedByLife lives end)
    ⊎ (IsWithout lives end × IsAnnounced (number_after lives) after_lives.told new.told
    × (new ≡ record after_lives { told = new.told })) → (log : List Called) →
    AreAnsweredSoFar log old.controlling.connections → AnswersLives log lives new.controlling.connections
all_lines fresh terms opening old lives after_lives new end is ended log all =
    subst (λ (c : Talks). AnswersLives log lives c) (sym same)
    (lines_lived fresh terms opening old lives after_lives is log all)
  where
    same : new.controlling.connections ≡ after_lives.controlling.connections
    same = elim ended [
      | inl last ↦ ap (λ (d : AtDaemon). d.controlling.connections) last.0
      | inr last ↦ ap (λ (d : AtDaemon). d.controlling.connections) last.2
    ]
