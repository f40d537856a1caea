-- A turn over a text that has just the bytes left which the connection gave in it.
use Rattle.std.proofs.Common.{◌≡◌, ℕ, ◌+◌, ◌<◌, ◌≤◌, Bool, true, List, [], Option, Some, None, refl, sym, ap, subst}
use Rattle.std.proofs.Common.{◌∙◌, ◌⊎◌, inl, inr}
use Rattle.std.specs.Io.KnownBytes.{append_known}
use Rattle.swim_text.specs.Polled.{GivesOn}
use Rattle.swim_text.specs.Streams.{append_none}
use Rattle.swim_control.specs.declared.desks.DeskCommand.{DeskCommand}
use Rattle.swim_control.specs.declared.connections.Close.TheVariants as closes
use Rattle.swim_control.specs.declared.connections.Stand.{Stand}
use Rattle.swim_control.specs.declared.connections.Stand.TheVariants.{Idle, Busy, Ended, Closed}
use Rattle.swim_control.specs.declared.serving.Served.{Served}
use Rattle.swim_control.specs.Connections.{Answers, Hands, HandsOn, ReadsOn, Turns, TurnsOnGiven, with_left}
use Rattle.swim_control.specs.Desks.{Told}
use Rattle.swim_control.specs.Talks.{Talk}

-- nothing was given
same_given : (old new : Talk) → new.given ≡ old.given → new.given ≡ append_known old.given []
same_given old new same = same ∙ append_none old.given

-- ---- an answer that waits

handed_left : (old new : Talk) → HandsOn old new → HandsOn (with_left [] old) (with_left [] new)
handed_left old new h = (h.0, h.1, ap (with_left []) h.2)

pub hands_given : {S : Type 0} (asks : S → DeskCommand → Told → S → Type 0) (now : ℕ) (stand : Stand) (old new : Talk)
    (desk after : S) → Hands now stand old new → after ≡ desk → TurnsOnGiven asks now stand old new desk after
hands_given asks now Idle old new desk after h same =
    ([], same_given old new (ap (λ (t : Talk). t.given) h.0.2), (same, inl (handed_left old new h.0, h.1, h.2)))
hands_given asks now Busy old new desk after h same =
    ([], same_given old new (ap (λ (t : Talk). t.given) h.0.2), inl (same, inl (handed_left old new h.0, h.1)))
hands_given asks now (Ended end) old new desk after h same = absurd h
hands_given asks now (Closed (closes.Served end)) old new desk after h same = absurd h
hands_given asks now (Closed closes.Silent) old new desk after h same = absurd h
hands_given asks now (Closed closes.Untaken) old new desk after h same =
    ([], same_given old new (ap (λ (t : Talk). t.given) h.0.2), (same, (handed_left old new h.0, h.1, h.2)))

-- ---- serving had ended

pub closed_given : {S : Type 0} (asks : S → DeskCommand → Told → S → Type 0) (now : ℕ) (end : Served) (old new : Talk)
    (desk after : S) → new ≡ old → after ≡ desk → old.is_taken ≡ true → old.end ≡ Some end →
    TurnsOnGiven asks now (Closed (closes.Served end)) old new desk after
closed_given asks now end old new desk after same quiet-so taken ended = (
  [],
  same_given old new (ap (λ (t : Talk). t.given) same),
  (quiet-so, ap (with_left []) same, taken, ended),
)

-- ---- no line ended

pub reads_given : (old new : Talk) → ReadsOn old new →
    GivesOn old.given new.given None old.part new.part 128 old.reads new.reads →
    (bytes : List ℕ) × (new.given ≡ append_known old.given bytes) × ReadsOn (with_left bytes old) (with_left [] new)
reads_given old new r given = (given.0, given.1, (r.0, given.2, r.2, ap (with_left []) r.3))

-- what comes of it where nothing came, or a part of a line
pub waits_given : {S : Type 0} (asks : S → DeskCommand → Told → S → Type 0) (now : ℕ) (stand result : Stand)
    (old new : Talk) (desk after : S) → ReadsOn old new →
    GivesOn old.given new.given None old.part new.part 128 old.reads new.reads → after ≡ desk →
    (stand ≡ Idle) ⊎ (stand ≡ Busy) →
    ((old.since + 60000 ≤ now) × (result ≡ Closed closes.Silent)) ⊎ ((now < old.since + 60000) × (result ≡ stand)) →
    TurnsOnGiven asks now result old new desk after
waits_given asks now stand result old new desk after r given same (inl idle) (inl late) =
    let x = reads_given old new r given in
    subst (λ s. TurnsOnGiven asks now s old new desk after) (sym late.1) (x.0, x.1, (same, x.2, late.0))
waits_given asks now stand result old new desk after r given same (inr busy) (inl late) =
    let x = reads_given old new r given in
    subst (λ s. TurnsOnGiven asks now s old new desk after) (sym late.1) (x.0, x.1, (same, x.2, late.0))
waits_given asks now stand result old new desk after r given same (inl idle) (inr soon) =
    let x = reads_given old new r given in
    subst (λ s. TurnsOnGiven asks now s old new desk after) (sym (soon.1 ∙ idle))
    (x.0, x.1, (same, inr (x.2, soon.0)))
waits_given asks now stand result old new desk after r given same (inr busy) (inr soon) =
    let x = reads_given old new r given in
    subst (λ s. TurnsOnGiven asks now s old new desk after) (sym (soon.1 ∙ busy))
    (x.0, x.1, inl (same, inr (x.2, soon.0)))

-- ---- a line ended

answers_left : {S : Type 0} (asks : S → DeskCommand → Told → S → Type 0) (now : ℕ) (old new : Talk) (desk after : S)
    (end : Option Served) (a : Answers asks now old new desk after end)
    (given : GivesOn old.given new.given (Some a.met) old.part a.line 128 old.reads new.reads) →
    Answers asks now (with_left given.0 old) (with_left [] new) desk after end
answers_left asks now old new desk after end a given = record {
  serving = a.serving;
  met = a.met;
  line = a.line;
  read = given.2;
  put = a.put;
  meets = a.meets;
  sent = a.sent;
  rest = ap (with_left []) a.rest;
}

-- with it serving ended
pub ended_given : {S : Type 0} (asks : S → DeskCommand → Told → S → Type 0) (now : ℕ) (old new : Talk)
    (desk after : S) (end : Served) (a : Answers asks now old new desk after (Some end)) →
    GivesOn old.given new.given (Some a.met) old.part a.line 128 old.reads new.reads →
    TurnsOnGiven asks now (Ended end) old new desk after
ended_given asks now old new desk after end a given =
    (given.0, given.1, answers_left asks now old new desk after (Some end) a given)

-- or it goes on
pub answered_given : {S : Type 0} (asks : S → DeskCommand → Told → S → Type 0) (now : ℕ) (old new : Talk)
    (desk after : S) (a : Answers asks now old new desk after None) →
    GivesOn old.given new.given (Some a.met) old.part a.line 128 old.reads new.reads →
    TurnsOnGiven asks now Busy old new desk after
answered_given asks now old new desk after a given =
    (given.0, given.1, inr (answers_left asks now old new desk after None a given))
