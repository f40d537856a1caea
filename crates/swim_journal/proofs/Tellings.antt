-- The lines of a journal file, as a session takes them: behind its header each call, and what it was answered.
use Rattle.std.specs.Prelude.{is_some as is_told}
use Rattle.std.proofs.Common.{◌≡◌, ℕ, ◌+◌, ◌≤◌, Bool, true, false, cond, List, [], ◌∷◌, length, Option, Some, None}
use Rattle.std.proofs.Common.{refl, ap, ◌∙◌, arith}
use Rattle.std.specs.Prelude.{◌||◌}
use Rattle.swim_history.specs.declared.calls.Call.{Call}
use Rattle.swim_history.specs.declared.calls.Call.TheVariants.{Tick, Hear, Join, Remove}
use Rattle.swim_history.specs.declared.entries.Entry.{Entry}
use Rattle.swim_script.specs.declared.commands.Command.{Command}
use Rattle.swim_script.specs.declared.commands.Command.TheVariants as commands
use Rattle.swim_script.specs.declared.commands.Command.TheVariants.{Answer}
use Rattle.swim_script.specs.declared.commands.Draws.TheVariants.{Seeded}
use Rattle.swim_script.specs.declared.commands.Stage.TheVariants.{Header}
use Rattle.swim_script.specs.Headers.{Told, Head, stage_told, head_then, head_of, said, limit_in}
use Rattle.swim_script.specs.Texts.{placed_text}
use Rattle.swim_script.specs.Script.{Turn, lines_of, asked_by, asked_in, is_full, calls_in}
use Rattle.swim_script.specs.Script.Asked.{Nothing, Calls}
use Rattle.swim_journal.specs.Lines.{call_line, answer_line, command_of, IsReadBack}
use Rattle.swim_journal.proofs.FileLines.{IsAt, call_says, call_at, answer_says, answer_at}

-- lines that tell these entries' calls and what they were answered, newest first, behind others
abbrev pub lines_onto : List Entry → List (List ℕ) → List (List ℕ)
lines_onto [] before = before
lines_onto (x ∷ h) before = answer_line (length h) x.reply ∷ call_line x.call ∷ lines_onto h before

-- each entry's call reads back
abbrev pub CallsReadBack : List Entry → Type 0
CallsReadBack [] = Unit {0}
CallsReadBack (x ∷ h) = IsReadBack x.call × CallsReadBack h

abbrev pub is_some : List Entry → Bool
is_some [] = false
is_some (x ∷ h) = true

-- behind such lines an event line was met, if there are any
pub onto_at : (before : List (List ℕ)) (told : Told) (h : List Entry) →
    stage_told told ≡ Header Seeded (is_told told.wire) → IsAt before told false → CallsReadBack h →
    IsAt (lines_onto h before) told (is_some h)
onto_at before told [] seeded at back = at
onto_at before told (x ∷ h) seeded at back =
    answer_at (call_line x.call ∷ lines_onto h before) told (length h) x.reply
    (call_at (lines_onto h before) told (is_some h) x.call seeded (onto_at before told h seeded at back.1) back.0)

-- ---- as turns

-- turns of such lines
abbrev pub TellEach : List Turn → List Entry → List Turn → Type 0
TellEach base [] turns = turns ≡ base
TellEach base (x ∷ h) turns =
    (rest : List Turn) × (asks : Turn) × (tells : Turn) × (turns ≡ tells ∷ asks ∷ rest) × TellEach base h rest
    × (asked_in (lines_of rest) asks.line ≡ Calls x.call)
    × (said (lines_of (asks ∷ rest)) tells.line ≡ Some (Answer (placed_text (length h) x.reply)))

pub asked_of : (call : Call) → asked_by (Some (command_of call)) ≡ Calls call
asked_of Tick = refl
asked_of (Hear source m) = refl
asked_of (Join id peer) = refl
asked_of (Remove id) = refl

-- turns that tell each of these entries, and those before them
pub record AreTold (before : List (List ℕ)) (h : List Entry) (turns : List Turn) : Type 0 where
  pub base : List Turn
  pub are : lines_of base ≡ before
  pub each : TellEach base h turns

pub are_told : (before : List (List ℕ)) (told : Told) (h : List Entry) (turns : List Turn) →
    stage_told told ≡ Header Seeded (is_told told.wire) → IsAt before told false → CallsReadBack h →
    lines_of turns ≡ lines_onto h before → AreTold before h turns
are_told before told [] turns seeded at back lines = record { base = turns; are = lines; each = refl }
are_told before told (x ∷ h) [] seeded at back lines = absurd cc
are_told before told (x ∷ h) (tells ∷ []) seeded at back lines = absurd cc
are_told before told (x ∷ h) (tells ∷ asks ∷ rest) seeded at back lines =
    let rest-is : lines_of rest ≡ lines_onto h before = cc lines in
    let asks-is : asks.line ≡ call_line x.call = cc lines in
    let tells-is : tells.line ≡ answer_line (length h) x.reply = cc lines in
    let again = are_told before told h rest seeded at back.1 rest-is in
    let here : IsAt (lines_onto h before) told (is_some h) = onto_at before told h seeded at back.1 in
    let says : said (lines_onto h before) (call_line x.call) ≡ Some (command_of x.call) =
    call_says (lines_onto h before) told (is_some h) x.call seeded here back.0 in
    let next : IsAt (call_line x.call ∷ lines_onto h before) told true =
    call_at (lines_onto h before) told (is_some h) x.call seeded here back.0 in
    let answers = answer_says (call_line x.call ∷ lines_onto h before) told (length h) x.reply next in
    record {
      base = again.base;
      are = again.are;
      each = (
        rest,
        asks,
        tells,
        refl,
        again.each,
        ap asked_by (ap (λ (l : List (List ℕ)). said l asks.line) rest-is ∙ ap (said (lines_onto h before)) asks-is ∙
            says) ∙ asked_of x.call,
        ap (λ (l : List (List ℕ)). said (asks.line ∷ l) tells.line) rest-is ∙
            ap (λ (l : List ℕ). said (l ∷ lines_onto h before) tells.line) asks-is
            ∙ ap (said (call_line x.call ∷ lines_onto h before)) tells-is ∙ answers,
      );
    }

-- ---- lines that call nothing

pub none_then : (n : ℕ) (head : Head) (o : Option Command) → (head_then n o head).begun ≡ false →
    (head.begun ≡ false) × (asked_by o ≡ Nothing)
none_then n head None e = (e, refl)
none_then n head (Some (commands.Open arguments)) e = (e, refl)
none_then n head (Some (commands.Row row)) e = (e, refl)
none_then n head (Some (commands.Order order)) e = (e, refl)
none_then n head (Some (commands.Place place)) e = (e, refl)
none_then n head (Some (commands.Wire version)) e = (e, refl)
none_then n head (Some (commands.Seed key life)) e = (e, refl)
none_then n head (Some (commands.Answer text)) e = (e, refl)
none_then n head (Some command) e = absurd cc

-- lines among which no event line was met
pub none_called : (turns : List Turn) → (head_of (lines_of turns)).begun ≡ false → calls_in turns ≡ []
none_called [] e = refl
none_called (turn ∷ before) e =
    let here = none_then (length (lines_of before) + 1) (head_of (lines_of before)) (said (lines_of before) turn.line)
    e in
    rw here.1 (none_called before here.0)

-- ---- no more calls than entries

call_more : (full : Bool) (call : Call) (made : List Call) → length (cond full made (call ∷ made)) ≤ length made + 1
call_more true call made = omega arith
call_more false call made = omega arith

pub calls_few : (base : List Turn) (h : List Entry) (turns : List Turn) → TellEach base h turns → calls_in base ≡ [] →
    length (calls_in turns) ≤ length h
calls_few base [] turns tell none = let e : length (calls_in turns) ≡ 0 = ap (λ t. length (calls_in t)) tell ∙
    ap length none in omega (arith, e)
calls_few base (x ∷ h) turns tell none =
    let rest = tell.0 in
    let asks = tell.1 in
    let tells = tell.2 in
    let again = calls_few base h rest tell.4 none in
    let quiet : calls_in (tells ∷ asks ∷ rest) ≡ calls_in (asks ∷ rest) = rw tell.6 refl in
    let full = is_full (limit_in (head_of (lines_of rest)).told) (length (calls_in rest)) || asks.refused in
    let calls : calls_in (asks ∷ rest) ≡ cond full (calls_in rest) (x.call ∷ calls_in rest) = rw tell.5 refl in
    let e : length (calls_in turns) ≡ length (cond full (calls_in rest) (x.call ∷ calls_in rest)) =
    ap (λ t. length (calls_in t)) tell.3 ∙ ap length quiet ∙ ap length calls in
    omega (arith, e, again, call_more full x.call (calls_in rest))
