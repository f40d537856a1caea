-- What comes to a door.
use Rattle.std.specs.Prelude.{◌≡◌, ℕ, Bool, true, false, List, [], Option, Some}
use Rattle.swim_desk.specs.declared.doors.Knock.{Knock}
use Rattle.swim_desk.specs.declared.doors.Knock.TheVariants.{Conn, Fault}

-- the door is out of order
abbrev pub is_fault : {A B : Type 0} → Knock A B → Bool
is_fault Fault = true
is_fault knock = false

-- who comes has given nothing, and nothing was written for it; both are known
abbrev pub ComesNew : {A B : Type 0} → (A → Option (List ℕ)) → (B → Option (List ℕ)) → Knock A B → Type 0
ComesNew given written (Conn reader writer) = (given reader ≡ Some []) × (written writer ≡ Some [])
ComesNew given written knock = Unit {0}
