-- Worked lines: the definitions, evaluated on texts that were written down by hand.
use Rattle.std.specs.Prelude.{◌≡◌, ℕ, List, [], ◌∷◌, ◌++◌, codes, refl}
use Rattle.std.specs.Fmt.{digits}
use Rattle.swim_wire.specs.Address.{Address}
use Rattle.swim_history.specs.declared.rows.Row.{Row}
use Rattle.swim_history.specs.declared.rows.RowState.TheVariants as states
use Rattle.swim_history.specs.declared.rows.Change.{Change}
use Rattle.swim_history.specs.declared.rows.Change.TheVariants.{Up, Failed, Gone}
use Rattle.swim_events.specs.declared.events.Event.TheVariants.{Life, Lost, Ended}
use Rattle.swim_events.specs.declared.watchers.WatcherStanding.TheVariants.{Following, Losing}
use Rattle.swim_events.specs.declared.watchers.WatcherStanding.TheVariants as standing
use Rattle.swim_events.specs.Texts.{event_text, shown, table_text}
use Rattle.swim_events.specs.Watched.{lines_after, watched_text}
use Rattle.swim_events.specs.Watchers.{after_sent, after_text}

address : ℕ → Address
address last = record { ip = 10 ∷ 0 ∷ 0 ∷ last ∷ []; port = 7000 }

-- member 2 is up, and member 3 failed in period 7
rows : List Row
rows =
    record { id = 2; peer = address 2; state = states.Up }
    ∷ record { id = 3; peer = address 3; state = states.Failed 7 }
    ∷ []

tells_a_table : table_text rows ≡ codes "up 2 10.0.0.2:7000\nfailed 3 7\n.\n"
unfolding digits rows address
tells_a_table = refl

-- member 2 fails, 3 is removed, and 4 joins
later : List Change
later = Failed 2 9 ∷ Gone 3 ∷ Up 4 (address 4) ∷ []

tells_what_changes : watched_text rows later
    ≡ codes "up 2 10.0.0.2:7000\nfailed 3 7\n.\nfailed 2 9\ngone 3\nup 4 10.0.0.4:7000\n"
unfolding digits rows later address
tells_what_changes = refl

-- what a watcher makes of these lines
makes_a_table : lines_after (shown (record { id = 2; peer = address 2; state = states.Up }) ∷ Failed 3 7 ∷ []) later
    ≡ Failed 2 9 ∷ Up 4 (address 4) ∷ []
unfolding later
makes_a_table = refl

tells_a_life : event_text (Life 12) ≡ codes "life 12\n"
unfolding digits
tells_a_life = refl

tells_the_ends : event_text Lost ++ event_text Ended ≡ codes "lost\nended\n"
tells_the_ends = refl

-- who keeps up takes a text, who is lost takes none
takes_a_text : after_text (codes "gone 3\n") (record { pending = codes ".\n"; standing = Following })
    ≡ record { pending = codes ".\ngone 3\n"; standing = Following }
takes_a_text = refl

takes_nothing_more : after_text (codes "gone 3\n") (record { pending = codes ".\n"; standing = Losing })
    ≡ record { pending = codes ".\n"; standing = Losing }
takes_nothing_more = refl

-- `lost` comes as soon as it fits
is_told_at_last : after_sent 1 (record { pending = codes "x\n"; standing = Losing })
    ≡ record { pending = codes "\nlost\n"; standing = standing.Lost }
is_told_at_last = refl
