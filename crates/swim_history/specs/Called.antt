-- The call and the reply of an entry.
use Rattle.swim_history.specs.declared.entries.Called.{Called}
use Rattle.swim_history.specs.declared.entries.Choice.{Choice}
use Rattle.swim_history.specs.declared.entries.Entry.{Entry}

-- an entry without what was drawn for it
abbrev pub called_of : Entry → Called
called_of e = record { seat = e.seat; number = e.number; call = e.call; reply = e.reply }

-- the entry with that call and that reply for which this was drawn
abbrev pub entry_of : Called → Choice → Entry
entry_of c choice = record { seat = c.seat; number = c.number; call = c.call; choice = choice; reply = c.reply }
