-- The stream of what was sent and is to be sent, as texts are put and bytes are sent.
use Rattle.std.proofs.Common.{◌≡◌, ℕ, Bool, true, false, cond, List, [], ◌∷◌, ◌++◌, take, drop, refl, sym, ap, subst}
use Rattle.std.proofs.Common.{◌∙◌, append_assoc, append-nil}
use Rattle.std.proofs.lemmas.List.{take-append-drop}
use Rattle.std.proofs.lemmas.List.Folds.{concat-append}
use Rattle.std.specs.List.{concat}
use Rattle.swim_events.specs.declared.watchers.WatcherStanding.{WatcherStanding}
use Rattle.swim_events.specs.declared.watchers.WatcherStanding.TheVariants.{Following, Losing, Lost}
use Rattle.swim_events.specs.Texts.{lost_text}
use Rattle.swim_events.specs.Watchers.{AtWatcher, fits, losing, text_then, after_text, left_then, after_sent, IsFront}
use Rattle.swim_events.specs.Watchers.{Streams, IsStream}

-- the first texts stay so where more texts come
front_more : (first : List ℕ) (texts : List (List ℕ)) (text stream : List ℕ) → IsFront first texts stream →
    IsFront first (texts ++ text ∷ []) stream
front_more first texts text stream front = record {
  whole = front.whole;
  unfit = front.unfit;
  rest = front.rest ++ text ∷ [];
  cut = ap (λ l. l ++ text ∷ []) front.cut ∙ append_assoc front.whole (front.unfit ∷ front.rest) (text ∷ []);
  stream_is = front.stream_is;
}

-- who can't be told all any more
losing_streams : (first : List ℕ) (texts : List (List ℕ)) (sent pending : List ℕ) →
    IsFront first texts (sent ++ pending) →
    IsStream first texts sent (losing pending)
losing_streams first texts sent pending front = by (fits pending lost_text)
  where
    by : (fit : Bool) → IsStream first texts sent
        (cond fit (record { pending = pending ++ lost_text; standing = Lost })
        (record { pending = pending; standing = Losing }))
    by true = (sent ++ pending, front, sym (append_assoc sent pending lost_text))
    by false = front

text_streams : (standing : WatcherStanding) (first : List ℕ) (texts : List (List ℕ)) (sent pending text : List ℕ) →
    Streams standing first texts (sent ++ pending) →
    IsStream first (texts ++ text ∷ []) sent (text_then standing text pending)
text_streams Following first texts sent pending text all = by (fits pending text)
  where
    more : concat texts ++ text ≡ concat (texts ++ text ∷ [])
    more = ap (λ l. concat texts ++ l) (sym (append-nil text)) ∙ sym (concat-append texts (text ∷ []))

    longer : sent ++ (pending ++ text) ≡ first ++ concat (texts ++ text ∷ [])
    longer =
        sym (append_assoc sent pending text) ∙ ap (λ l. l ++ text) all ∙ append_assoc first (concat texts) text
        ∙ ap (λ l. first ++ l) more

    by : (fit : Bool) → IsStream first (texts ++ text ∷ []) sent
        (cond fit (record { pending = pending ++ text; standing = Following }) (losing pending))
    by true = longer
    by false =
        losing_streams first (texts ++ text ∷ []) sent pending
        (record { whole = texts; unfit = text; rest = []; cut = refl; stream_is = all })
text_streams Losing first texts sent pending text front = front_more first texts text (sent ++ pending) front
text_streams Lost first texts sent pending text lost = (lost.0, front_more first texts text lost.0 lost.1, lost.2)

-- a text was put
pub put_streams : (first : List ℕ) (texts : List (List ℕ)) (sent text : List ℕ) (w : AtWatcher) →
    IsStream first texts sent w →
    IsStream first (texts ++ text ∷ []) sent (after_text text w)
put_streams first texts sent text w is = text_streams w.standing first texts sent w.pending text is

left_streams : (standing : WatcherStanding) (first : List ℕ) (texts : List (List ℕ)) (sent left : List ℕ) →
    Streams standing first texts (sent ++ left) → IsStream first texts sent (left_then standing left)
left_streams Following first texts sent left is = is
left_streams Losing first texts sent left is = losing_streams first texts sent left is
left_streams Lost first texts sent left is = is

-- the first bytes were sent
pub sent_streams : (first : List ℕ) (texts : List (List ℕ)) (sent : List ℕ) (count : ℕ) (w : AtWatcher) →
    IsStream first texts sent w → IsStream first texts (sent ++ take count w.pending) (after_sent count w)
sent_streams first texts sent count w is =
    let same : sent ++ w.pending ≡ (sent ++ take count w.pending) ++ drop count w.pending =
    ap (λ l. sent ++ l) (sym (take-append-drop count w.pending))
    ∙ sym (append_assoc sent (take count w.pending) (drop count w.pending)) in
    left_streams w.standing first texts (sent ++ take count w.pending) (drop count w.pending)
    (subst (λ (stream : List ℕ). Streams w.standing first texts stream) same is)

-- ---- who keeps up was put all

lost_now : (pending : List ℕ) → (losing pending).standing ≡ Following → ⊥
lost_now pending = by (fits pending lost_text)
  where
    by : (fit : Bool) →
        (cond {A = AtWatcher} fit (record { pending = pending ++ lost_text; standing = Lost })
        (record { pending = pending; standing = Losing })).standing
        ≡ Following → ⊥
    by true is = cc is
    by false is = cc is

kept_text : (standing : WatcherStanding) (text pending : List ℕ) →
    (text_then standing text pending).standing ≡ Following →
    (standing ≡ Following) × ((text_then standing text pending).pending ≡ pending ++ text)
kept_text Following text pending keeps = by (fits pending text) keeps
  where
    after : Bool → AtWatcher
    after fit = cond fit (record { pending = pending ++ text; standing = Following }) (losing pending)

    by : (fit : Bool) → (after fit).standing ≡ Following →
        (Following ≡ Following) × ((after fit).pending ≡ pending ++ text)
    by true is = (refl, refl)
    by false is = absurd (lost_now pending is)
kept_text Losing text pending is = absurd (cc is)
kept_text Lost text pending is = absurd (cc is)

pub put_keeps_up : (text : List ℕ) (w new : AtWatcher) → new ≡ after_text text w → new.standing ≡ Following →
    (w.standing ≡ Following) × (new.pending ≡ w.pending ++ text)
put_keeps_up text w new is keeps =
    let kept = kept_text w.standing text w.pending (rw is at keeps) in (kept.0, rw is kept.1)

kept_left : (standing : WatcherStanding) (left : List ℕ) → (left_then standing left).standing ≡ Following →
    (standing ≡ Following) × ((left_then standing left).pending ≡ left)
kept_left Following left is = (refl, refl)
kept_left Losing left is = absurd (lost_now left is)
kept_left Lost left is = absurd (cc is)

pub sent_keeps_up : (count : ℕ) (w new : AtWatcher) → new ≡ after_sent count w → new.standing ≡ Following →
    (w.standing ≡ Following) × (new.pending ≡ drop count w.pending)
sent_keeps_up count w new is keeps =
    let kept = kept_left w.standing (drop count w.pending) (rw is at keeps) in (kept.0, rw is kept.1)
