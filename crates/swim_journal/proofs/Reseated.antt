-- A run is one whoever called.
use Rattle.std.proofs.Common.{◌≡◌, ℕ, suc, true, eqb, List, [], ◌∷◌, length, map, refl, ap, arith}
use Rattle.swim_history.specs.declared.calls.Call.{Call}
use Rattle.swim_history.specs.declared.calls.Call.TheVariants.{Tick, Join}
use Rattle.swim_history.specs.declared.replies.Reply.{Reply}
use Rattle.swim_history.specs.declared.replies.Reply.TheVariants.{Started, Asked, Joined}
use Rattle.swim_history.specs.declared.entries.Choice.{Choice}
use Rattle.swim_history.specs.declared.entries.Choice.TheVariants.{Round}
use Rattle.swim_history.specs.declared.entries.Entry.{Entry}
use Rattle.swim_history.specs.Setting.{Setting}
use Rattle.swim_history.specs.Run.{IsRun, calls_of}
use Rattle.swim_history.specs.Drawn.{IsDrawn, DrawsEntry}
use Rattle.std.proofs.lemmas.Bool.{and_parts, eqb-true}
use Rattle.swim_history.specs.Setting.{IsSetting}
use Rattle.swim_history.specs.Laws.Drawn.{IsFunctional, calls_in, drawn_once}
use Rattle.swim_journal.specs.Seatless.{Alike, reseated, has_one_seat, IsReplayed}
use Rattle.swim_journal.proofs.Alike.{lists_alike}
use Rattle.swim_journal.proofs.AlikeAnswers.{answers_alike}

alike_reseated : (h : List Entry) → Alike h (reseated h)
alike_reseated [] = tt
alike_reseated (e ∷ h) = (record { call = refl; choice = refl; reply = refl }, alike_reseated h)

length_reseated : (h : List Entry) → length h ≡ calls_of 0 (reseated h)
length_reseated [] = refl
length_reseated (e ∷ h) = ap suc (length_reseated h)

-- a run is one whoever called
pub run_reseated : (o : Setting) (h : List Entry) → IsRun o h → IsRun o (reseated h)
run_reseated o [] run = tt
run_reseated o (e ∷ h) run = (
  record {
    seat = omega arith;
    number = length_reseated h;
    answer = answers_alike o h (reseated h) e.call e.reply e.choice (alike_reseated h) run.0.answer;
  },
  run_reseated o h run.1,
)

-- and was drawn by the same chooser
pub drawn_reseated : {S : Type 0} (orders : S → List ℕ → List ℕ → S → Type 0) (places : S → ℕ → ℕ → S → Type 0)
    (o : Setting) (start now : S) (h : List Entry) → IsDrawn orders places o start h now →
    IsDrawn orders places o start (reseated h) now
drawn_reseated orders places o start now [] d = d
drawn_reseated orders places o start now (e ∷ h) d =
    (d.0, drawn_reseated orders places o start d.0 h d.1, by e.call e.reply e.choice d.2)
  where
    by : (call : Call) (reply : Reply) (choice : Choice) → DrawsEntry orders places o h call reply choice d.0 now →
        DrawsEntry orders places o (reseated h) call reply choice d.0 now
    by Tick (Started judged probe) (Round order) given = rw (← lists_alike o h (reseated h) (alike_reseated h)) given
    by Tick (Asked m peer number relays) choice given = rw (← lists_alike o h (reseated h) (alike_reseated h)) given
    by (Join id peer) (Joined place) choice given = rw (← lists_alike o h (reseated h) (alike_reseated h)) given
    by call reply choice given = given

-- the calls of one caller
same_calls : (r h : List Entry) → has_one_seat r ≡ true → map (λ e. e.call) r ≡ map (λ e. e.call) h →
    calls_in r ≡ calls_in (reseated h)
same_calls [] [] one calls = refl
same_calls [] (e' ∷ h) one calls = absurd cc
same_calls (e ∷ r) [] one calls = absurd cc
same_calls (e ∷ r) (e' ∷ h) one calls =
    let parts = and_parts (eqb e.seat 0) (has_one_seat r) one in
    let seat : e.seat ≡ 0 = eqb-true e.seat 0 parts.0 in
    let call : e.call ≡ e'.call = cc calls in
    let rest = same_calls r h parts.1 (cc calls) in
    rw (seat, call, rest) refl

-- a run of one caller that is drawn by the same chooser for the same calls is the run, whoever called in it: its
-- replies
-- and its choices are the same
pub replayed : {S : Type 0} (orders : S → List ℕ → List ℕ → S → Type 0) (places : S → ℕ → ℕ → S → Type 0)
    (same : S → S → Type 0) →
    IsFunctional orders places same → (o : Setting) → IsSetting o → IsReplayed orders places same o
replayed orders places same functional o setting start start' now now' h replay self run drawn run' drawn' one calls =
    (drawn_once orders places same o functional setting start' start now' now replay (reseated h) self run'
    (run_reseated o h run) (same_calls replay h one calls) drawn'
    (drawn_reseated orders places o start now h drawn)).0
