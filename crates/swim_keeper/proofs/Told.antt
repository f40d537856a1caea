-- What becomes of a life that a keeper opened and closed.
use Rattle.std.specs.Prelude.{◌&&◌, not}
use Rattle.std.specs.Io.KnownBytes.{Appends}
use Rattle.std.proofs.Common.{◌≡◌, ◌≤◌, ℕ, Bool, true, false, List, [], ◌∷◌, ◌++◌, length, Option, Some, None, refl}
use Rattle.std.proofs.Common.{sym, ap, subst, ◌∙◌, inl, inr}
use Rattle.swim_text.specs.Streams.{Puts}
use Rattle.swim_history.specs.declared.entries.Entry.{Entry}
use Rattle.swim_history.specs.Setting.{Setting}
use Rattle.swim_trail.specs.Growing.{Grows}
use Rattle.swim_targets.specs.Draws.{of_seed}
use Rattle.swim_node.specs.Following.{filings_of}
use Rattle.swim_events.specs.Guests.{AtGuest}
use Rattle.swim_journal.specs.Headings.{header_text, IsTellable}
use Rattle.swim_journal.specs.Comments.{without_comments}
use Rattle.swim_journal.specs.Replays.{IsDrawnRun, file_text}
use Rattle.swim_journal.proofs.PlainFile.{file_plain}
use Rattle.swim_telling.specs.Notices.{notices_both}
use Rattle.swim_telling.specs.Telling.{Written}
use Rattle.swim_recorder.specs.declared.transcripts.Transcript.{Transcript}
use Rattle.swim_recorder.specs.Filed.{Filed, HoldText}
use Rattle.swim_recorder.specs.Files.{IsLifeFile}
use Rattle.swim_recorder.specs.Recording.{AtRecorder, IsRecorded}
use Rattle.swim_recorder.specs.Reports.{Report, HasHeardOf}
use Rattle.swim_recorder.specs.Transcripts.{AreWritten, HasWritten}
use Rattle.swim_recorder.specs.Watched.{AreToldLife}
use Rattle.swim_crew.specs.declared.pasts.Past.{Past}
use Rattle.swim_crew.specs.declared.pasts.Terms.{Terms}
use Rattle.swim_keeper.specs.Endings.{TellsEnd}
use Rattle.swim_keeper.specs.Filing.{IsBegun, IsPutBack}
use Rattle.swim_keeper.specs.Keeping.{AtKeeper, IsClosed, IsOpened}
use Rattle.swim_keeper.specs.Told.{AreBytesOf, IsDrawnLife, IsFiled, IsKept, at_lives}

-- a header, and behind it what a recorder wrote, are the life's file
abbrev pub TellsFiles : Type 0
TellsFiles =
    (fresh page now : Option (List ℕ)) (opening : Setting) (limit : ℕ) (seed : List ℕ) (number : ℕ) (past : List Entry)
    (was whole : Bool) → IsTellable opening limit seed number →
    IsDrawnRun opening (record (of_seed seed) { stream = number }) past → length past ≤ limit →
    Puts fresh page (header_text opening limit seed number) was → HasWritten page now was (filings_of past) whole →
    IsLifeFile fresh now opening limit seed number past whole

pub not_cut : (whole kept is_cut : Bool) → is_cut ≡ not (whole && kept) → is_cut ≡ false →
    (whole ≡ true) × (kept ≡ true)
not_cut true true is_cut is not = (refl, refl)
not_cut true false is_cut is not = let bad : false ≡ true = sym not ∙ is in absurd (cc bad)
not_cut false kept is_cut is not = let bad : false ≡ true = sym not ∙ is in absurd (cc bad)

-- the bytes of a whole text that a new file was given
bytes_of : (fresh now bytes : Option (List ℕ)) (text : List ℕ) → fresh ≡ Some [] → Appends fresh now text →
    HoldText bytes now → without_comments text ≡ text → AreBytesOf bytes text
bytes_of fresh now None text new put holds plain = tt
bytes_of None now (Some bytes) text new put holds plain = absurd (cc new)
bytes_of (Some before) None (Some bytes) text new put holds plain = absurd put
bytes_of (Some before) (Some all) (Some bytes) text new put holds plain =
    let none : before ≡ [] = cc new in
    holds ∙ ap without_comments (put ∙ ap (λ (l : List ℕ). l ++ text) none) ∙ plain

file_bytes : (fresh now bytes : Option (List ℕ)) (terms : Terms) (life : ℕ) (o : Setting) (past : List Entry)
    (whole kept is_cut : Bool) → IsTellable o terms.limit terms.seed life →
    IsLifeFile fresh now o terms.limit terms.seed life past whole → is_cut ≡ not (whole && kept) →
    (kept ≡ true → HoldText bytes now) → is_cut ≡ false → fresh ≡ Some [] →
    AreBytesOf bytes (file_text (header_text o terms.limit terms.seed life) past)
file_bytes fresh now bytes terms life o past whole kept is_cut tellable file is holds not new =
    let both = not_cut whole kept is_cut is not in
    let text = file_text (header_text o terms.limit terms.seed life) past in
    let put : Puts fresh now text true = subst (λ (w : Bool). Puts fresh now text w) both.0 file.text in
    let back = (file.file both.0).back in
    bytes_of fresh now bytes text new put (holds both.1) (file_plain o terms.limit terms.seed life past tellable back)

file_back : {V : Type 0} (written : V → Option (List ℕ)) (fresh : Option (List ℕ)) (terms : Terms) (life : ℕ)
    (o : Setting) (past : List Entry) (start now : Option (Transcript V)) (old new : Option (List Filed))
    (is_cut : Bool) → TellsFiles → IsDrawnRun o (record (of_seed terms.seed) { stream = life }) past →
    length past ≤ terms.limit → IsBegun written fresh terms life o start →
    AreWritten written (filings_of past) start now → IsPutBack written life now old new is_cut →
    IsFiled fresh terms life o past old new is_cut
file_back written fresh terms life o past None None old new is_cut law drawn within begun wrote back = inl back
file_back written fresh terms life o past None (Some now) old new is_cut law drawn within begun wrote back =
    absurd wrote
file_back written fresh terms life o past (Some start) None old new is_cut law drawn within begun wrote back =
    absurd wrote
file_back written fresh terms life o past (Some start) (Some now) old new is_cut law drawn within begun wrote back =
    let text = law fresh (written start.sink) (written now.sink) o terms.limit terms.seed life past start.is_whole
    now.is_whole begun.tellable drawn within begun.header wrote in
    inr (
      record { number = life; text = written now.sink; bytes = back.1.bytes; is_kept = back.0 },
      back.1.grows,
      record {
        number = refl;
        whole = now.is_whole;
        text = text;
        cut = back.2;
        bytes = file_bytes fresh (written now.sink) back.1.bytes terms life o past now.is_whole back.0 is_cut
            begun.tellable text back.2 back.1.holds;
      },
    )

pub life_told : {V : Type 0} (written : V → Option (List ℕ)) (held : V → ℕ) (fresh : Option (List ℕ)) (terms : Terms)
    (life : ℕ) (o : Setting) (past : Past) (k l m : AtKeeper) (d e f g : AtRecorder V) → TellsFiles →
    IsDrawnLife terms life o past → IsOpened written fresh terms life o k d l e →
    IsRecorded written held life o (filings_of past.journal.past) e f → IsClosed written life past l f m g →
    IsKept fresh terms life o past (at_lives k d) (at_lives m g)
life_told {V} written held fresh terms life o past k l m d e f g law lived opened recorded closed =
    let h = past.journal.past in
    let drawn : IsDrawnRun o (record (of_seed terms.seed) { stream = life }) h =
    record { setting = opened.setting; run = lived.history.run; now = lived.drawn.0; drawn = lived.drawn.1 } in
    let tells = recorded.records.tells h opened.setting lived.history.run refl in
    let came : e.gallery ≡ d.gallery = ap (λ (r : AtRecorder V). r.gallery) opened.others in
    let stayed : g.gallery ≡ f.gallery = ap (λ (r : AtRecorder V). r.gallery) closed.others in
    let heard : e.heard ≡ d.heard = ap (λ (r : AtRecorder V). r.heard) opened.others in
    let hears : g.heard ≡ f.heard = ap (λ (r : AtRecorder V). r.heard) closed.others in record {
      lived = lived;
      is_cut = closed.is_cut;
      lines = subst (λ (w : Written). TellsEnd life past closed.is_cut w m.lines) opened.lines closed.lines;
      notices = notices_both k.notices l.notices m.notices opened.notices closed.notices;
      begun = subst (λ (b : Option (List ℕ)). Grows k.begun b (life ∷ [])) (sym closed.begun) opened.begun;
      opened = subst (λ (b : Option (List ℕ)). Grows k.opened b (life ∷ [])) (sym closed.opened) opened.opened;
      filed = file_back written fresh terms life o h e.transcript f.transcript k.filed m.filed closed.is_cut law drawn
          lived.within opened.file recorded.records.writes
          (subst (λ (b : Option (List Filed)). IsPutBack written life f.transcript b m.filed closed.is_cut) opened.filed
          closed.filed);
      watched = subst (λ (gs : List AtGuest). AreToldLife life o gs h g.gallery) came
          (subst (λ (gs : List AtGuest). AreToldLife life o e.gallery h gs) (sym stayed) tells.told);
      reported = subst (λ (r : Option (List Report)). HasHeardOf o h r g.heard) heard
          (subst (λ (r : Option (List Report)). HasHeardOf o h e.heard r) (sym hears) tells.reported);
    }
