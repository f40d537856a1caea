-- What a line of events says.
use Rattle.std.specs.Prelude.{ℕ, ◌-◌, ◌^◌, List, [], ◌∷◌, Option, Some, None, Result, Ok, Err, if◌then◌else◌, codes}
use Rattle.std.specs.Str.{bytes_eq}
use Rattle.swim_wire.specs.Address.{Address, address_of}
use Rattle.swim_wire.specs.Arguments.{◌>>=◌, argument, nothing_left}
use Rattle.swim_text.specs.Numbers.{number_of}
use Rattle.swim_wire.specs.Ids.{id_of}
use Rattle.swim_text.specs.Words.{words_of}
use Rattle.swim_history.specs.declared.rows.Change.TheVariants as changes
use Rattle.swim_events.specs.declared.events.Event.TheVariants as events
use Rattle.swim_watch.specs.declared.feed_events.NoEvent.{NoEvent}
use Rattle.swim_watch.specs.declared.feed_events.FeedEvent.{FeedEvent}
use Rattle.swim_watch.specs.declared.feed_events.FeedEvent.TheVariants.{Event, TableEnds, Again}
use Rattle.swim_watch.specs.declared.feed_events.EventWord.{EventWord}
use Rattle.swim_watch.specs.declared.feed_events.EventWord.TheVariants as words

-- the first word of a line, if it is known
abbrev pub word_of : List ℕ → Option EventWord
word_of text =
    if bytes_eq text (codes "up") then Some words.Up
    else (if bytes_eq text (codes "failed") then Some words.Failed
    else (if bytes_eq text (codes "gone") then Some words.Gone
    else (if bytes_eq text (codes "life") then Some words.Life
    else (if bytes_eq text (codes "lost") then Some words.Lost
    else (if bytes_eq text (codes "ended") then Some words.Ended
    else (if bytes_eq text (codes ".") then Some words.Dot
    else (if bytes_eq text (codes "again") then Some words.Again else None)))))))

-- no event
abbrev pub nothing : NoEvent
nothing = record {}

-- an id, an address, a number
abbrev pub take_id : List (List ℕ) → Result (ℕ × List (List ℕ)) NoEvent
take_id = argument nothing id_of

abbrev pub take_peer : List (List ℕ) → Result (Address × List (List ℕ)) NoEvent
take_peer = argument nothing address_of

abbrev pub take_number : List (List ℕ) → Result (ℕ × List (List ℕ)) NoEvent
take_number = argument nothing (number_of (2 ^ 64 - 1))

-- what a line says, where no words are left over
abbrev pub alone : FeedEvent → List (List ℕ) → Result FeedEvent NoEvent
alone said after = nothing_left nothing after >>= λ done. Ok said

-- what the words after the first say
unfoldable pub said_after : EventWord → List (List ℕ) → Result FeedEvent NoEvent
said_after words.Up given = do
  id ← take_id given
  peer ← take_peer id.1
  alone (Event (events.Changed (changes.Up id.0 peer.0))) peer.1
said_after words.Failed given = do
  id ← take_id given
  number ← take_number id.1
  alone (Event (events.Changed (changes.Failed id.0 number.0))) number.1
said_after words.Gone given = do
  id ← take_id given
  alone (Event (events.Changed (changes.Gone id.0))) id.1
said_after words.Life given = do
  number ← take_number given
  alone (Event (events.Life number.0)) number.1
said_after words.Lost given = alone (Event events.Lost) given
said_after words.Ended given = alone (Event events.Ended) given
said_after words.Dot given = alone TableEnds given
said_after words.Again given = alone Again given

-- what the words after the first say, if that is known
abbrev pub known_said : Option EventWord → List (List ℕ) → Result FeedEvent NoEvent
known_said None after = Err nothing
known_said (Some word) after = said_after word after

abbrev pub words_said : List (List ℕ) → Result FeedEvent NoEvent
words_said [] = Err nothing
words_said (word ∷ after) = known_said (word_of word) after

-- what a line says, which stands here without its line feed
abbrev pub said_of : List ℕ → Result FeedEvent NoEvent
said_of line = words_said (words_of line)
