-- What a sink has taken of a text.
use Rattle.std.proofs.Common.{ℕ, Bool, true, false, List, [], Option, refl, append-nil, sym}
use Rattle.std.specs.Io.KnownBytes.{Keeps}
use Rattle.swim_text.specs.Streams.{Puts, appends_kept, appends_none, keeps_self}

-- a line that was left out
pub none_put : (o : Option (List ℕ)) (text : List ℕ) → Puts o o text false
none_put o text =
    record { front = []; unput = text; cut = refl; grows = appends_none o o (keeps_self o) }

-- a text was put, and what is held back was handed on, or was not
pub put_and_flushed : (o m n : Option (List ℕ)) (text : List ℕ) (sent : Bool) → Puts o m text true → Keeps m n →
    Puts o n text sent
put_and_flushed o m n text true put kept = appends_kept o m n text put kept
put_and_flushed o m n text false put kept =
    record { front = text; unput = []; cut = sym (append-nil text); grows = appends_kept o m n text put kept }
