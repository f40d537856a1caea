-- A session in which each line of a run's file was confirmed made that run, but for who called.
use Rattle.std.proofs.Common.{◌≡◌, inl, inr, ℕ, ◌<◌, ◌^◌, List, [], ◌∷◌, length, map, refl, subst}
use Rattle.rand_chacha.specs.ChaCha.{ChaCha}
use Rattle.swim_targets.specs.Draws.{DrawsOrder, DrawsPlace, HaveSameWords}
use Rattle.swim_history.specs.declared.calls.Call.{Call}
use Rattle.swim_history.specs.declared.calls.Call.TheVariants.{Tick, Join}
use Rattle.swim_history.specs.declared.replies.Reply.{Reply}
use Rattle.swim_history.specs.declared.replies.Reply.TheVariants.{Started, Asked, Joined}
use Rattle.swim_history.specs.declared.entries.Choice.{Choice}
use Rattle.swim_history.specs.declared.entries.Choice.TheVariants.{Round}
use Rattle.swim_history.specs.declared.entries.Entry.{Entry}
use Rattle.swim_history.specs.Setting.{Setting}
use Rattle.swim_history.specs.Drawn.{DrawsRelays, DrawsEntry, IsDrawn}
use Rattle.swim_detector.specs.OneRun.{seed_answers_once}
use Rattle.swim_script.specs.Choosers.{ChoosesOrder, ChoosesPlace}
use Rattle.swim_script.specs.declared.choosers.Drawer.{Drawer}
use Rattle.swim_script.specs.declared.choosers.Drawer.TheVariants.{Seeded, Scripted}
use Rattle.swim_script.specs.Script.{Turn, calls_in, AreConfirmed, IsRunOf}
use Rattle.swim_script.specs.Headers.{Told, setting_in, chooser_in}
use Rattle.swim_journal.specs.Seatless.{reseated}
use Rattle.swim_journal.specs.Replays.{IsDrawnRun}
use Rattle.swim_journal.proofs.Reseated.{replayed}
use Rattle.swim_journal.proofs.Tellings.{TellEach}
use Rattle.swim_journal.proofs.Unrefused.{all_called}

-- ---- who draws from a seed goes on drawing from it

-- the chooser draws from a seed
abbrev IsSeeded : Drawer → (ChaCha → Type 0) → Type 0
IsSeeded drawer draws = (now : ChaCha) × (drawer ≡ Seeded now) × draws now

order_seeded : (before : ChaCha) (ids order : List ℕ) (after : Drawer) → ChoosesOrder (Seeded before) ids order after →
    IsSeeded after (DrawsOrder before ids order)
order_seeded before ids order (Seeded now) given = (now, refl, given)
order_seeded before ids order (Scripted now) given = absurd given

place_seeded : (before : ChaCha) (last place : ℕ) (after : Drawer) → ChoosesPlace (Seeded before) last place after →
    IsSeeded after (DrawsPlace before last place)
place_seeded before last place (Seeded now) given = (now, refl, given)
place_seeded before last place (Scripted now) given = absurd given

relays_seeded : (k : ℕ) (ids relays : List ℕ) (before : ChaCha) (after : Drawer) →
    DrawsRelays ChoosesOrder k ids relays (Seeded before) after →
    IsSeeded after (DrawsRelays DrawsOrder k ids relays before)
relays_seeded k ids relays before after (inl none) = (before, none.1, inl (none.0, refl))
relays_seeded k ids relays before after (inr some) =
    let found = order_seeded before ids some.2 after some.3 in
    (found.0, found.1, inr (some.0, some.1, some.2, found.2, some.4))

entry_seeded : (o : Setting) (h : List Entry) (call : Call) (reply : Reply) (choice : Choice) (before : ChaCha)
    (after : Drawer) → DrawsEntry ChoosesOrder ChoosesPlace o h call reply choice (Seeded before) after →
    IsSeeded after (DrawsEntry DrawsOrder DrawsPlace o h call reply choice before)
entry_seeded o h Tick (Started judged probe) (Round order) before after given =
    order_seeded before _ order.items after given
entry_seeded o h Tick (Asked m peer number relays) choice before after given = relays_seeded o.k _ _ before after given
entry_seeded o h (Join id peer) (Joined place) choice before after given = place_seeded before _ place after given
entry_seeded o h call reply choice before after given = (before, given, refl)

run_seeded : (o : Setting) (start : ChaCha) (h : List Entry) (after : Drawer) →
    IsDrawn ChoosesOrder ChoosesPlace o (Seeded start) h after →
    IsSeeded after (IsDrawn DrawsOrder DrawsPlace o start h)
run_seeded o start [] after given = (start, given, refl)
run_seeded o start (e ∷ h) after given =
    let earlier = run_seeded o start h given.0 given.1 in
    let last = entry_seeded o h e.call e.reply e.choice earlier.0 after
    (subst (λ (d : Drawer). DrawsEntry ChoosesOrder ChoosesPlace o h e.call e.reply e.choice d after) earlier.1
    given.2) in
    (last.0, last.1, (earlier.0, earlier.2, last.2))

-- ---- the replay

-- a run of the same calls is the same run
pub replay_of : (h : List Entry) (calls : List Call) (told : Told) (start : ChaCha) (run : List Entry)
    (after : Drawer) → IsDrawnRun (setting_in told) start h → chooser_in told ≡ Seeded start →
    IsRunOf told calls run after → map (λ e. e.call) run ≡ map (λ e. e.call) h → run ≡ reseated h
replay_of h calls told start run after d chooser made same =
    let drawn = run_seeded (setting_in told) start run after
    (subst (λ (c : Drawer). IsDrawn ChoosesOrder ChoosesPlace (setting_in told) c run after) chooser made.drawn) in
    replayed DrawsOrder DrawsPlace HaveSameWords seed_answers_once (setting_in told) d.setting start start d.now drawn.0
    h run refl d.run d.drawn made.legal drawn.2 made.one_seat same

pub replay_is : (base : List Turn) (h : List Entry) (turns : List Turn) (told : Told) (start : ChaCha)
    (run : List Entry) (after : Drawer) → IsDrawnRun (setting_in told) start h → chooser_in told ≡ Seeded start →
    length h < 2 ^ 64 →
    TellEach base h turns → calls_in base ≡ [] → IsRunOf told (calls_in turns) run after → AreConfirmed turns run →
    run ≡ reseated h
replay_is base h turns told start run after d chooser small tell none made confirmed =
    replay_of h (calls_in turns) told start run after d chooser made
    (all_called base h turns told run after tell none small made confirmed).0
