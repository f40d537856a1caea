-- What was heard last, and the stream that passes it on.
use Rattle.std.specs.Prelude.{◌≡◌, ℕ, ◌-◌, Bool, true, false, nat_le, List, [], ◌∷◌, ◌++◌, length, drop, Option, codes}
use Rattle.std.specs.Prelude.{decimal, if◌then◌else◌}
use Rattle.swim_text.specs.Streams.{one_more}
use Rattle.swim_trail.specs.Growing.{Grows}

-- an event was heard, or none
abbrev pub Hears : Option (List (List ℕ)) → Option (List (List ℕ)) → List ℕ → Bool → Type 0
Hears old new line true = Grows old new (line ∷ [])
Hears old new line false = Grows old new []

-- how many events there were, and the last of them, oldest first
pub record Kept : Type 0 where
  pub told : ℕ
  pub lines : List (List ℕ)

-- so many of the last
abbrev pub last_of : {A : Type 0} → ℕ → List A → List A
last_of n xs = drop (length xs - n) xs

-- one more event
abbrev pub kept_then : Kept → List ℕ → Kept
kept_then kept line = record { told = one_more kept.told; lines = last_of 64 (kept.lines ++ line ∷ []) }

-- what is kept when these came one after the other
abbrev pub noted : Kept → List (List ℕ) → Kept
noted kept [] = kept
noted kept (line ∷ lines) = noted (kept_then kept line) lines

-- these were heard, and the last 64 are kept
pub record Notes (heard_old heard_new : Option (List (List ℕ))) (old new : Kept) : Type 0 where
  pub lines : List (List ℕ)
  pub heard : Grows heard_old heard_new lines
  pub kept : new ≡ noted old lines

-- ---- the stream

-- an event with its number
abbrev pub event_text : ℕ → List ℕ → List ℕ
event_text number line = codes "id: " ++ (decimal number ++ (codes "\ndata: " ++ (line ++ codes "\n\n")))

-- whoever has seen the events up to some number isn't told them again
abbrev pub unseen_text : ℕ → ℕ → List ℕ → List ℕ
unseen_text seen number line = if nat_le number seen then [] else event_text number line

-- events, the first of which has the number after this one
abbrev pub events_text : ℕ → ℕ → List (List ℕ) → List ℕ
events_text seen number [] = []
events_text seen number (line ∷ lines) =
    unseen_text seen (one_more number) line ++ events_text seen (one_more number) lines

-- up to which number events were seen; a number that no event has yet is of another server
abbrev pub seen_of : ℕ → ℕ → ℕ
seen_of told number = if nat_le number told then number else 0

-- the whole stream: whoever reads it asks again after two seconds
abbrev pub stream_text : ℕ → Kept → List ℕ
stream_text number kept =
    codes "retry: 2000\n\n" ++ events_text (seen_of kept.told number) (kept.told - length kept.lines) kept.lines
