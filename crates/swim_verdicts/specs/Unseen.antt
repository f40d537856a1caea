-- What is written where nothing is known of the bytes.
use Rattle.std.proofs.Common.{ℕ, Bool, true, false, List, [], None, refl}
use Rattle.swim_text.specs.Streams.{Puts}

pub puts_unseen : (text : List ℕ) (done : Bool) → Puts None None text done
puts_unseen text true = tt
puts_unseen text false = record { front = []; unput = text; cut = refl; grows = tt }
