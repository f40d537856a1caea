-- How a caller begins a life, and what stays true of it.
use Rattle.std.specs.Prelude.{ℕ, List, [], Option}
use Rattle.swim_history.specs.Setting.{Setting}
use Rattle.swim_node.specs.Seats.{Seated}
use Rattle.swim_work.specs.declared.counts.Counts.{Counts}
use Rattle.swim_work.specs.Posts.{AtSender, HasSent, Posted}

-- a seat of this number that made no call
abbrev pub fresh_seat : ℕ → Seated
fresh_seat number = record { number = number; calls = []; full = 0 }

-- nothing was counted
abbrev pub nothing : Counts
nothing = record { unsent = 0; wire = 0; refused = 0 }

-- if all that its post was handed since some start are the messages of the replies to its seat's calls, that stays so
abbrev pub SendsOn : {O : Type 0} → (O → Option (List Posted)) → Setting → AtSender O → AtSender O → Type 0
SendsOn posted o old new =
    (start : Option (List Posted)) → HasSent o old.seat.calls start (posted old.post) old.counts.unsent →
    HasSent o new.seat.calls start (posted new.post) new.counts.unsent
