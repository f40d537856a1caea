-- Connections that are served side by side, none of which is waited for: what a turn of one does. Moments are in
-- milliseconds.
use Rattle.std.specs.Prelude.{◌≡◌, ℕ, ◌+◌, ◌<◌, ◌≤◌, true, false, ◌⊎◌, List, [], ◌∷◌, ◌++◌, Option, Some, None}
use Rattle.std.specs.Io.KnownBytes.{Keeps, append_known}
use Rattle.swim_text.specs.declared.short_lines.LineEnd.{LineEnd}
use Rattle.swim_text.specs.ShortLines.{Advances}
use Rattle.swim_control.specs.declared.desks.DeskCommand.{DeskCommand}
use Rattle.swim_control.specs.declared.connections.Close.TheVariants as closes
use Rattle.swim_control.specs.declared.connections.Stand.{Stand}
use Rattle.swim_control.specs.declared.connections.Stand.TheVariants.{Idle, Busy, Ended, Closed}
use Rattle.swim_control.specs.declared.serving.Served.{Served}
use Rattle.swim_control.specs.Desks.{Told}
use Rattle.swim_control.specs.Talks.{Talk, Talks}
use Rattle.swim_control.specs.Turns.{Meets}

-- an answer waits to be taken
abbrev pub IsWaiting : Talk → Type 0
IsWaiting t = t.is_taken ≡ false

-- none does, and serving goes on
abbrev pub IsServing : Talk → Type 0
IsServing t = (t.is_taken ≡ true) × (t.end ≡ None)

-- nothing was read and nothing was put
abbrev pub HandsOn : Talk → Talk → Type 0
HandsOn old new =
    IsWaiting old × Keeps old.written new.written
    × (new ≡ record old { written = new.written; is_taken = new.is_taken })

-- what a turn does where an answer waits, which may do so for a second
abbrev pub Hands : ℕ → Stand → Talk → Talk → Type 0
Hands now Idle old new = HandsOn old new × IsWaiting new × (now < old.since + 1000)
Hands now Busy old new = HandsOn old new × (new.is_taken ≡ true)
Hands now (Closed closes.Untaken) old new = HandsOn old new × IsWaiting new × (old.since + 1000 ≤ now)
Hands now stand old new = ⊥

-- no line ended: at most a part more of one was read, and what was put was handed on as far as it was taken
abbrev pub ReadsOn : Talk → Talk → Type 0
ReadsOn old new =
    IsServing old × Advances None old.left new.left old.part new.part 128 old.reads new.reads
    × Keeps old.written new.written
    × (new ≡ record old {
      left = new.left;
      given = new.given;
      part = new.part;
      reads = new.reads;
      written = new.written;
      is_taken = new.is_taken;
    })

-- a line ended so, it was answered, and what was put was handed on as far as it was taken; serving ends so with it, if
-- it does
pub record Answers {S : Type 0} (asks : S → DeskCommand → Told → S → Type 0) (now : ℕ) (old new : Talk) (desk after : S)
    (end : Option Served) : Type 0 where
  pub serving : IsServing old
  pub met : LineEnd
  pub line : List ℕ
  pub read : Advances (Some met) old.left new.left old.part line 128 old.reads new.reads
  pub put : Option (List ℕ)
  pub meets : Meets asks met line desk after old.written put end
  pub sent : Keeps put new.written
  pub rest : new ≡ record old {
    left = new.left;
    given = new.given;
    part = [];
    reads = new.reads;
    written = new.written;
    since = now;
    is_taken = new.is_taken;
    end = end;
  }

-- what a turn at this moment does to a connection and to the desk, and how the connection stands then; for a minute it
-- may send no whole line
abbrev pub Turns : {S : Type 0} → (S → DeskCommand → Told → S → Type 0) → ℕ → Stand → Talk → Talk → S → S → Type 0
Turns asks now Idle old new desk after =
    (after ≡ desk) × (Hands now Idle old new ⊎ (ReadsOn old new × (now < old.since + 60000)))
Turns asks now Busy old new desk after =
    ((after ≡ desk) × (Hands now Busy old new ⊎ (ReadsOn old new × (now < old.since + 60000))))
    ⊎ Answers asks now old new desk after None
Turns asks now (Ended end) old new desk after = Answers asks now old new desk after (Some end)
Turns asks now (Closed (closes.Served end)) old new desk after =
    (after ≡ desk) × (new ≡ old) × (old.is_taken ≡ true) × (old.end ≡ Some end)
Turns asks now (Closed closes.Silent) old new desk after = (after ≡ desk) × ReadsOn old new × (old.since + 60000 ≤ now)
Turns asks now (Closed closes.Untaken) old new desk after = (after ≡ desk) × Hands now (Closed closes.Untaken) old new

-- a connection that has these bytes left, and no more
abbrev pub with_left : List ℕ → Talk → Talk
with_left bytes t = record t { left = Some bytes }

-- in the turn the connection gave some bytes more, and the turn is that of one which has just these left: it takes all
-- of them
abbrev pub TurnsOnGiven : {S : Type 0} → (S → DeskCommand → Told → S → Type 0) → ℕ → Stand → Talk → Talk → S → S →
    Type 0
TurnsOnGiven asks now stand old new desk after =
    (bytes : List ℕ) × (new.given ≡ append_known old.given bytes)
    × Turns asks now stand (with_left bytes old) (with_left [] new) desk after

-- a connection stays unless it was closed
abbrev pub kept_at : Stand → Talk → List Talk
kept_at (Closed why) t = []
kept_at stand t = t ∷ []

-- it is noted as one that was
abbrev pub closed_with : Stand → Talk → List Talk → List Talk
closed_with (Closed why) t closed = closed ++ t ∷ []
closed_with stand t closed = closed

-- the first connection has its turn, and is the last from then on, unless it was closed
pub record TakesTurn {S : Type 0} (asks : S → DeskCommand → Told → S → Type 0) (now : ℕ) (stand : Stand)
    (old new : Talks) (desk after : S) : Type 0 where
  pub first : Talk
  pub others : List Talk
  pub was : old.talks ≡ first ∷ others
  pub then_so : Talk
  pub turn : Turns asks now stand first then_so desk after
  pub given : TurnsOnGiven asks now stand first then_so desk after
  pub are : new.talks ≡ others ++ kept_at stand then_so
  pub closed : new.closed ≡ closed_with stand then_so old.closed

-- a connection that has just come
abbrev pub newcomer : ℕ → Option (List ℕ) → Option (List ℕ) → Option (List ℕ) → ℕ → Talk
newcomer id left given written now = record {
  id = id;
  left = left;
  given = given;
  part = [];
  reads = 1048576;
  old = written;
  written = written;
  since = now;
  is_taken = true;
  end = None;
}
