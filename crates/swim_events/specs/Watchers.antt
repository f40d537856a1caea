-- What is to be sent to a watcher, and what a watcher was told.
use Rattle.std.specs.Prelude.{◌≡◌, ℕ, ◌+◌, nat_le, Bool, true, false, List, ◌∷◌, ◌++◌, length, drop, if◌then◌else◌}
use Rattle.std.specs.List.{concat}
use Rattle.swim_events.specs.declared.watchers.WatcherStanding.{WatcherStanding}
use Rattle.swim_events.specs.declared.watchers.WatcherStanding.TheVariants.{Following, Losing, Lost}
use Rattle.swim_events.specs.Texts.{lost_text}

-- the bytes that are to be sent, and whether the watcher keeps up
pub record AtWatcher : Type 0 where
  pub pending : List ℕ
  pub standing : WatcherStanding

-- it can't be told all any more
abbrev pub is_behind_at : WatcherStanding → Bool
is_behind_at Following = false
is_behind_at Losing = true
is_behind_at Lost = true

abbrev pub is_behind : AtWatcher → Bool
is_behind w = is_behind_at w.standing

-- how many bytes may wait
abbrev pub watcher_bytes : ℕ
watcher_bytes = 65536

-- whether a text fits behind those bytes
abbrev pub fits : List ℕ → List ℕ → Bool
fits pending text = nat_le (length pending + length text) watcher_bytes

-- who can't be told all any more is told so, as soon as that fits
abbrev pub losing : List ℕ → AtWatcher
losing pending =
    if fits pending lost_text then record { pending = pending ++ lost_text; standing = Lost }
    else record { pending = pending; standing = Losing }

-- after a text: all of it is to be sent, or nothing
abbrev pub text_then : WatcherStanding → List ℕ → List ℕ → AtWatcher
text_then Following text pending =
    if fits pending text then record { pending = pending ++ text; standing = Following } else losing pending
text_then Losing text pending = record { pending = pending; standing = Losing }
text_then Lost text pending = record { pending = pending; standing = Lost }

abbrev pub after_text : List ℕ → AtWatcher → AtWatcher
after_text text w = text_then w.standing text w.pending

-- after the first bytes were sent, so many
abbrev pub left_then : WatcherStanding → List ℕ → AtWatcher
left_then Following left = record { pending = left; standing = Following }
left_then Losing left = losing left
left_then Lost left = record { pending = left; standing = Lost }

abbrev pub after_sent : ℕ → AtWatcher → AtWatcher
after_sent count w = left_then w.standing (drop count w.pending)

-- a first text, the texts before the one that didn't fit, each whole, and nothing else
pub record IsFront (first : List ℕ) (texts : List (List ℕ)) (stream : List ℕ) : Type 0 where
  pub whole : List (List ℕ)
  pub unfit : List ℕ
  pub rest : List (List ℕ)
  pub cut : texts ≡ whole ++ unfit ∷ rest
  pub stream_is : stream ≡ first ++ concat whole

-- a stream of a first text and others: all of them, or those before the one that didn't fit, and then `lost`, which may
-- not
-- have fitted yet
abbrev pub Streams : WatcherStanding → List ℕ → List (List ℕ) → List ℕ → Type 0
Streams Following first texts stream = stream ≡ first ++ concat texts
Streams Losing first texts stream = IsFront first texts stream
Streams Lost first texts stream = (front : List ℕ) × IsFront first texts front × (stream ≡ front ++ lost_text)

-- where these texts were put behind a first one, and these bytes were sent, what was sent and what is to be sent is a
-- stream
-- of the texts
abbrev pub IsStream : List ℕ → List (List ℕ) → List ℕ → AtWatcher → Type 0
IsStream first texts sent w = Streams w.standing first texts (sent ++ w.pending)
