-- What passed through the two ends of a connection.
use Rattle.std.specs.Prelude.{◌≡◌, ◌⊎◌, ℕ, ◌<◌, Bool, true, List, [], ◌∷◌, ◌++◌, length, take, Result, Ok, Err}
use Rattle.swim_text.specs.declared.polled.Look.{Look}
use Rattle.swim_desk.specs.declared.doors.Knock.{Knock}
use Rattle.swim_desk.specs.declared.doors.Knock.TheVariants.{Conn}

-- what a contract sees of where lines come from: what each read of the stream found so far, with the bytes that came,
-- oldest first; the bytes that were taken of these; those that are ready; and how many reads failed
pub record AtSource : Type 0 where
  pub found : List (Look × List ℕ)
  pub taken : List ℕ
  pub ready : List ℕ
  pub failures : ℕ

-- and of where answers go: the texts that it took so far, one after another; what left it of them, oldest first, and
-- whether the system took that; the bytes that it holds back; and how many writes failed
pub record AtSink : Type 0 where
  pub put : List ℕ
  pub left : List (Bool × List ℕ)
  pub held : List ℕ
  pub failures : ℕ

-- nothing came yet
abbrev pub fresh_source : AtSource
fresh_source = record { found = []; taken = []; ready = []; failures = 0 }

-- nothing was put yet
abbrev pub fresh_sink : AtSink
fresh_sink = record { put = []; left = []; held = []; failures = 0 }

-- who comes to a door has brought nothing, and was answered nothing
abbrev pub IsNew : Knock AtSource AtSink → Type 0
IsNew (Conn reader writer) = (reader ≡ fresh_source) × (writer ≡ fresh_sink)
IsNew knock = Unit {0}

-- the stream was read, and what was found was noted with the bytes that came; while some were ready it wasn't
abbrev pub Finds : AtSource → Look → AtSource → Type 0
Finds old look new =
    ((0 < length old.ready) × (new ≡ old))
    ⊎ ((old.ready ≡ []) × (new.found ≡ old.found ++ (look, new.ready) ∷ []) × (new.taken ≡ old.taken))

-- the system took a front of what was held back, which has left since; or it took nothing
abbrev pub Sends : {E : Type 0} → AtSink → Result ℕ E → AtSink → Type 0
Sends old (Ok count) new = new.left ≡ old.left ++ (true, take count old.held) ∷ []
Sends old (Err fault) new = new.left ≡ old.left
