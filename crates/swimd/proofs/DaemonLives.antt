-- That a crew of a receiver, a ticker and a controller, and a keeper, live the lives of a daemon.
use Rattle.std.proofs.Common.{◌≡◌, ◌⊎◌, ℕ, Bool, List, [], ◌∷◌, map, Option, None, Some}
use Rattle.std.proofs.Common.{refl, sym, ap, subst, ◌∙◌, inl, inr}
use mathlib.Core.List.{IsPrefix}
use Rattle.swim_history.specs.declared.rows.Change.{Change}
use Rattle.swim_history.specs.Changes.{changes}
use Rattle.swim_history.specs.Setting.{Setting}
use Rattle.swim_trail.specs.Growing.{Grows}
use Rattle.swim_node.specs.Seats.{Seated}
use Rattle.swim_control.specs.SideBySide.{Brought, Called}
use Rattle.swim_control.specs.Talks.{Talks}
use Rattle.swim_work.specs.declared.paces.Beat.{Beat}
use Rattle.swim_work.specs.declared.workers.End.{End}
use Rattle.swim_work.specs.Gates.{Received}
use Rattle.swim_work.specs.Posts.{Posted, starts_in}
use Rattle.swim_guard.specs.Fenced.{AtFence, heard_over}
use Rattle.swim_guard.specs.Guarded.{AtLine, AtPost, heard_by, keys_in, posted_by}
use Rattle.swim_devices.specs.Pacing.{Pacing}
use Rattle.swim_receiver.specs.declared.receivers.Receiver.{Receiver}
use Rattle.swim_ticker.specs.declared.tickers.Ticker.{Ticker}
use Rattle.swim_desk.specs.declared.controllers.Controller.{Controller}
use Rattle.swim_receiver.specs.Datagrams.{AreHeard, datagrams_in}
use Rattle.swim_receiver.specs.Receiving.{HearsLife}
use Rattle.swim_receiver.specs.Receiving.{Owned as Receiving}
use Rattle.swim_ticker.specs.Ticking.{TicksLife}
use Rattle.swim_ticker.specs.Ticking.{Owned as Ticking}
use Rattle.swim_ticker.specs.Ticks.{AreTicked, ticks_in}
use Rattle.swim_desk.specs.Connected.{AnswersLines, AreAnswered, BringsSo}
use Rattle.swim_desk.specs.Controlling.{ControlsLife, Step}
use Rattle.swim_desk.specs.Given.{AnswersGiven, AreAnsweredSoFar}
use Rattle.swim_recorder.specs.declared.journal_recorder.JournalRecorder.{JournalRecorder}
use Rattle.swim_crew.specs.declared.pasts.LivesEnd.{LivesEnd}
use Rattle.swim_crew.specs.declared.pasts.Past.{Past}
use Rattle.swim_crew.specs.declared.pasts.Terms.{Terms}
use Rattle.swim_crew.specs.Crews.{CrewAt, Rules, Stand, Works, rules}
use Rattle.swim_crew.specs.Lives.{AreEnded, AreEndedByLife, AreLived, AreLives, IsKeptLife, number_after, opening_after}
use Rattle.swim_keeper.specs.declared.keepers.LifeKeeper.{LifeKeeper}
use Rattle.swim_keeper.specs.Keeping.{IsSame, Outlets, closes_by, opens_by, records_by}
use Rattle.swim_keeper.specs.Told.{EachIsTold, EachLife, IsAnnounced, IsWithout}
use Rattle.swim_receiver.proofs.Datagrams.{heard_later}
use Rattle.swim_ticker.proofs.Knocked.{knocked_later}
use Rattle.swim_keeper.proofs.Lives.{announced, life_drawn, life_kept, same_both}
use Rattle.swimd.specs.DaemonLives.{AreDaemonLives, AtControlling, AtDaemon, AtReceiving, AtTicking, Controls}
use Rattle.swimd.specs.DaemonLives.{IsDaemonLife, IsGuarded, IsSigned, Receives, Ticks, at_controlling, at_daemon}
use Rattle.swimd.specs.DaemonLives.{told_by}
use Rattle.swimd.proofs.Lines.{all_lines}
use Rattle.swimd.proofs.DaemonEnds.{controlling_ended, hearing_ended, ticking_ended}

-- the laws of the three workers, for posts that are known so
abbrev pub IsHeard : {O : Type 0} → (O → Option (List Posted)) → Type 0
IsHeard {O} posted =
    (o : Setting) (limit : ℕ) (old new : Receiving O) (seat : Seated) (seen : List Change) (end : End) →
    HearsLife posted o limit old seat seen end new → (given : List Received) × Grows old.received new.received given
    × AreHeard o old.returning (datagrams_in given) seat end.counts seen new.returning

abbrev pub IsTicked : {O : Type 0} → (O → Option (List Posted)) → Type 0
IsTicked {O} posted =
    (o : Setting) (limit : ℕ) (old new : Ticking O) (seat : Seated) (seen : List Change) (end : End) →
    TicksLife posted o limit old seat seen end new →
    (given : List Beat) × Grows old.beats new.beats given × AreTicked (ticks_in given) seat.calls end.counts

abbrev pub IsControlled : Type 0
IsControlled =
    (o : Setting) (limit : ℕ) (before after : Option (List Bool)) (old new : Talks) (seat : Seated)
    (seen : List Change) (end : End) → ControlsLife o limit before after old seat seen end new → (steps : List Step)
    × ((b : Brought) (log : List Called) → BringsSo b old.count steps → AreAnswered b log old →
    AnswersLines o limit b log seen seat end.counts.refused new)
    × ((log : List Called) → AreAnsweredSoFar log old → AnswersGiven o limit log seen seat end.counts.refused new)

abbrev hears : {A O : Type 0} → (O → Option (List Posted)) → (A → Receiving O) → Works A
hears posted receiving x o limit seat seen end y = HearsLife posted o limit (receiving x) seat seen end (receiving y)

abbrev ticks : {B O : Type 0} → (O → Option (List Posted)) → (B → Ticking O) → Works B
ticks posted ticking x o limit seat seen end y = TicksLife posted o limit (ticking x) seat seen end (ticking y)

abbrev controls : {C : Type 0} → (C → Option (List Bool)) → (C → Talks) → Works C
controls faults talks x o limit seat seen end y =
    ControlsLife o limit (faults x) (faults y) (talks x) seat seen end (talks y)

abbrev hearing : {O : Type 0} → (O → Option (List Posted)) → (O → Option (List Posted)) → Option (List Received) →
    Receiving O → AtReceiving
hearing posted went socket r = record {
  received = r.received;
  socket = socket;
  posted = posted r.post;
  went = went r.post;
  returning = r.returning;
}

abbrev beating : {O : Type 0} → (O → Option (List Posted)) → (O → Option (List Posted)) → Option (List Posted) →
    Ticking O → AtTicking
beating posted went knocks_went t = record {
  beats = t.beats;
  posted = posted t.post;
  went = went t.post;
  knocked = t.knocked;
  knocks_went = knocks_went;
  answered = t.answered;
  knocks = t.knocks;
}

received : {O : Type 0} (posted went : O → Option (List Posted)) → ((p : O) → IsSigned (posted p) (went p)) →
    IsHeard posted → (o : Setting) (limit : ℕ) (seat : Seated) (seen all : List Change) (end : End)
    (below above : Option (List Received)) (x y : Receiving O) → IsPrefix seen all →
    IsGuarded (hearing posted went above y) → HearsLife posted o limit x seat seen end y →
    Receives o all seat end (hearing posted went below x) (hearing posted went above y)
received posted went signed is_heard o limit seat seen all end below above x y begins guarded is =
    let law = is_heard o limit x y seat seen end is in record {
      given = law.0;
      grown = law.1;
      heard = heard_later o x.returning (datagrams_in law.0) seat end.counts seen all y.returning begins law.2;
      same = is.same;
      guarded = guarded;
      signed = signed y.post;
      sent = is.sent;
      ends = hearing_ended posted o limit x seat seen end y is;
    }

ticked : {O : Type 0} (posted went : O → Option (List Posted)) → ((p : O) → IsSigned (posted p) (went p)) →
    IsTicked posted → (o : Setting) (limit : ℕ) (seat : Seated) (seen all : List Change) (end : End)
    (before after : Option (List Posted)) (x y : Ticking O) → IsPrefix seen all → IsSigned y.knocked after →
    TicksLife posted o limit x seat seen end y →
    Ticks o all seat end (beating posted went before x) (beating posted went after y)
ticked posted went signed is_ticked o limit seat seen all end before after x y begins knocks_signed is =
    let law = is_ticked o limit x y seat seen end is in record {
      given = law.0;
      grown = law.1;
      ticked = law.2;
      sent = is.sent;
      knocks = is.knocks;
      knocked = knocked_later o (starts_in seat.calls) seen all x.answered y.answered x.knocked y.knocked is.knocks
          begins is.knocked;
      counted = is.counted;
      signed = signed y.post;
      knocks_signed = knocks_signed;
      ends = ticking_ended posted o limit x seat seen end y is;
    }

controlled : IsControlled → (o : Setting) (limit : ℕ) (seat : Seated) (seen all : List Change) (end : End)
    (before after : Option (List Bool)) (x y : Talks) → IsPrefix seen all →
    ControlsLife o limit before after x seat seen end y →
    Controls o limit all seat end (at_controlling before x) (at_controlling after y)
controlled is_controlled o limit seat seen all end before after x y begins is =
    let law = is_controlled o limit before after x y seat seen end is in
    let ended = controlling_ended o limit before after x y seat seen end is in record {
      seen = seen;
      begins = begins;
      steps = law.0;
      answered = law.1;
      given = law.2;
      faults = ended.0;
      knocked = ended.1;
      ends = ended.2;
    }

-- what is seen of who receives, of who ticks and of who controls
abbrev hearing_by : {A O : Type 0} → (O → Option (List Posted)) → (O → Option (List Posted)) →
    (A → Option (List Received)) → (A → Receiving O) → A → AtReceiving
hearing_by posted went socket receiving x = hearing posted went (socket x) (receiving x)

abbrev beating_by : {B O : Type 0} → (O → Option (List Posted)) → (O → Option (List Posted)) →
    (B → Option (List Posted)) → (B → Ticking O) → B → AtTicking
beating_by posted went knocks_went ticking x = beating posted went (knocks_went x) (ticking x)

abbrev controlling_by : {C : Type 0} → (C → Option (List Bool)) → (C → Talks) → C → AtControlling
controlling_by faults talks x = at_controlling (faults x) (talks x)

module _ {A B C W F H S V Q E I Y O : Type 0} (out : Outlets W F H S V Y) (posted went : O → Option (List Posted))
    (receiving : A → Receiving O) (socket : A → Option (List Received)) (ticking : B → Ticking O)
    (knocks_went : B → Option (List Posted)) (faults : C → Option (List Bool)) (talks : C → Talks)
    (guarded : (a : A) → IsGuarded (hearing posted went (socket a) (receiving a)))
    (signed : (p : O) → IsSigned (posted p) (went p))
    (knocks_signed : (b : B) → IsSigned (ticking b).knocked (knocks_went b)) (told : EachIsTold out.written out.held)
    (is_heard : IsHeard posted) (is_ticked : IsTicked posted) (is_controlled : IsControlled) where
  -- what is seen of the crew and its keeper
  abbrev seen : Stand A B C (JournalRecorder V Q E I Y) (LifeKeeper W F H S) → AtDaemon
  seen s =
      at_daemon (told_by out) (hearing_by posted went socket receiving) (beating_by posted went knocks_went ticking)
      (controlling_by faults talks) s

  -- what each of them does
  abbrev the_rules : Rules A B C (JournalRecorder V Q E I Y) (LifeKeeper W F H S)
  the_rules =
      rules (hears posted receiving) (ticks posted ticking) (controls faults talks) (records_by out) (opens_by out)
      (closes_by out)

  life_lived : (terms : Terms) (life : ℕ) (o : Setting) (past : Past)
      (old new : Stand A B C (JournalRecorder V Q E I Y) (LifeKeeper W F H S)) → old.keeper.terms ≡ terms →
      IsKeptLife the_rules o terms.limit terms.seed life old past new →
      IsSame old.keeper new.keeper
      × IsDaemonLife out.fresh terms life o past (seen old) (seen new)
  life_lived terms life o past old new is_terms is =
      let kept = life_kept out (hears posted receiving) (ticks posted ticking) (controls faults talks) told terms life o
      past old new is_terms is in
      let all = changes o past.journal.past in
      let first : new.crew.first ≡ is.crew.first =
      ap (λ (c : CrewAt A B C (JournalRecorder V Q E I Y)). c.first) is.others in
      let second : new.crew.second ≡ is.crew.second =
      ap (λ (c : CrewAt A B C (JournalRecorder V Q E I Y)). c.second) is.others in
      let third : new.crew.third ≡ is.crew.third =
      ap (λ (c : CrewAt A B C (JournalRecorder V Q E I Y)). c.third) is.others in (
        kept.0,
        record {
          lived = life_drawn (hears posted receiving) (ticks posted ticking) (controls faults talks) (records_by out)
              terms life o (record old.crew { recorder = is.recorder }) past is.crew is.life is.drawn;
          received = subst (λ (x : A). Receives o all is.life.one past.ends.first
              (hearing_by posted went socket receiving old.crew.first) (hearing_by posted went socket receiving x))
              (sym first)
              (received posted went signed is_heard o terms.limit is.life.one is.life.by_first.seen all past.ends.first
              (socket old.crew.first) (socket is.crew.first) (receiving old.crew.first) (receiving is.crew.first)
              is.life.by_first.begins (guarded is.crew.first) is.life.by_first.has_worked);
          ticked = subst (λ (x : B). Ticks o all is.life.two past.ends.second
              (beating_by posted went knocks_went ticking old.crew.second)
              (beating_by posted went knocks_went ticking x)) (sym second)
              (ticked posted went signed is_ticked o terms.limit is.life.two is.life.by_second.seen all
              past.ends.second (knocks_went old.crew.second) (knocks_went is.crew.second) (ticking old.crew.second)
              (ticking is.crew.second) is.life.by_second.begins (knocks_signed is.crew.second)
              is.life.by_second.has_worked);
          controlled = subst (λ (x : C). Controls o terms.limit all is.life.three past.ends.third
              (controlling_by faults talks old.crew.third) (controlling_by faults talks x)) (sym third)
              (controlled is_controlled o terms.limit is.life.three is.life.by_third.seen all past.ends.third
              (faults old.crew.third) (faults is.crew.third) (talks old.crew.third) (talks is.crew.third)
              is.life.by_third.begins is.life.by_third.has_worked);
          kept = kept.1;
        },
      )

  lives_lived : (terms : Terms) (from : Setting)
      (old : Stand A B C (JournalRecorder V Q E I Y) (LifeKeeper W F H S)) (lives : List Past)
      (new : Stand A B C (JournalRecorder V Q E I Y) (LifeKeeper W F H S)) → old.keeper.terms ≡ terms →
      AreLives the_rules from terms.limit terms.seed
      old lives new →
      IsSame old.keeper new.keeper
      × EachLife (IsDaemonLife out.fresh terms) from (seen old) lives (seen new)
  lives_lived terms from old [] new is_terms is = (
    subst (λ (s : Stand A B C (JournalRecorder V Q E I Y) (LifeKeeper W F H S)). IsSame old.keeper s.keeper) (sym is)
        (refl, refl, refl, refl, refl),
    ap seen is,
  )
  lives_lived terms from old (past ∷ before) new is_terms is =
      let earlier = lives_lived terms from old before is.0 is_terms is.1 in
      let last = life_lived terms (number_after before) (opening_after from before) past is.0 new
      (earlier.0.0 ∙ is_terms) is.2 in (
        same_both old.keeper is.0.keeper new.keeper earlier.0 last.0,
        (seen is.0, earlier.1, last.1),
      )

  ended : (from : Setting) (lives : List Past)
      (mid new : Stand A B C (JournalRecorder V Q E I Y) (LifeKeeper W F H S)) (end : LivesEnd) →
      AreEnded the_rules from lives mid new end →
      IsSame mid.keeper new.keeper
      × (((seen new ≡ seen mid) × AreEndedByLife lives end)
      ⊎ (IsWithout lives end × IsAnnounced (number_after lives) (seen mid).told (seen new).told
      × (seen new ≡ record (seen mid) { told = (seen new).told })))
  ended from lives mid new end (inl last) = (
    subst (λ (s : Stand A B C (JournalRecorder V Q E I Y) (LifeKeeper W F H S)). IsSame mid.keeper s.keeper)
        (sym last.0) (refl, refl, refl, refl, refl),
    inl (ap seen last.0, last.1),
  )
  ended from lives mid new end (inr last) = (
    last.2.0.0,
    inr (
      (last.0, last.1),
      announced out (number_after lives) (opening_after from lives) mid.keeper new.keeper mid.crew.recorder
          new.crew.recorder last.2.0,
      ap (λ (c : CrewAt A B C (JournalRecorder V Q E I Y)). record {
        told = (seen new).told;
        receiving = hearing_by posted went socket receiving c.first;
        ticking = beating_by posted went knocks_went ticking c.second;
        controlling = controlling_by faults talks c.third;
      }) last.2.1,
    ),
  )

  -- the lives of such a crew
  pub all_lived : (opening : Setting) (old new : Stand A B C (JournalRecorder V Q E I Y) (LifeKeeper W F H S))
      (end : LivesEnd) →
      AreLived the_rules opening
      old.keeper.terms.limit old.keeper.terms.seed old new end →
      IsSame old.keeper new.keeper × AreDaemonLives out.fresh old.keeper.terms opening (seen old) (seen new) end
  all_lived opening old new end is =
      let lived = lives_lived old.keeper.terms opening old is.lives is.after_lives refl is.lived in
      let last = ended opening is.lives is.after_lives new end is.ended in (
        same_both old.keeper is.after_lives.keeper new.keeper lived.0 last.0,
        record {
          lives = is.lives;
          after_lives = seen is.after_lives;
          lived = lived.1;
          ended = last.1;
          lines = all_lines out.fresh old.keeper.terms opening (seen old) is.lives (seen is.after_lives) (seen new) end
              lived.1 last.1;
        },
      )

-- ---- over the gates of a daemon: a line behind a fence and keys, and posts with keys

abbrev pub OverSocket : Type 0
OverSocket = AtPost (List Posted)

abbrev pub socket : Receiver (AtLine (AtFence (List Received))) OverSocket → Option (List Received)
socket r = Some r.line.line.line

abbrev pub receiving : Receiver (AtLine (AtFence (List Received))) OverSocket → Receiving OverSocket
receiving r = record {
  received = heard_by (heard_over (socket r) r.line.line.passed) (keys_in r.line.judged);
  listed = None;
  post = r.post;
  returning = r.returning;
}

abbrev pub handed : OverSocket → Option (List Posted)
handed post = posted_by (Some post.post) post.sent

abbrev pub went : OverSocket → Option (List Posted)
went post = Some post.post

pub guarded : (r : Receiver (AtLine (AtFence (List Received))) OverSocket) →
    IsGuarded (hearing handed went (socket r) (receiving r))
guarded r = (r.line.line.passed, keys_in r.line.judged, refl)

pub signed : (post : OverSocket) → IsSigned (handed post) (went post)
signed post = (post.sent, refl)

abbrev pub knocks_went : Ticker Pacing OverSocket → Option (List Posted)
knocks_went t = went t.knock_post

abbrev pub ticking : Ticker Pacing OverSocket → Ticking OverSocket
ticking t = record {
  beats = Some t.pace.beats;
  post = t.post;
  knocked = handed t.knock_post;
  answered = t.lookup;
  knocks = t.knocks;
}

abbrev pub talks : {D S X Y : Type 0} → Controller D S X Y → Talks
talks c = c.hall.connections

abbrev pub knocks : {D S X Y : Type 0} → (D → Option (List Bool)) → Controller D S X Y → Option (List Bool)
knocks faults c = faults c.hall.door

pub knocks_signed : (t : Ticker Pacing OverSocket) → IsSigned (ticking t).knocked (knocks_went t)
knocks_signed t = signed t.knock_post
