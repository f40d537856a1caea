-- The members that a run probes are those of the orders that were drawn, as long as the same members are listed.
use Rattle.std.proofs.Common.{◌≡◌, ℕ, false, List, [], ◌∷◌, ◌++◌, map, append_assoc, append-nil, Option, Some, None}
use Rattle.std.proofs.Common.{refl, sym, ap, ◌∙◌}
use Rattle.std.proofs.lemmas.Bool.{or_parts}
use Rattle.std.proofs.lemmas.List.{map-append}
use Rattle.std.proofs.lemmas.List.Folds.{concat-append}
use Rattle.std.specs.List.{concat, list_any}
use Rattle.std.specs.Option.{option_to_list}
use Rattle.swim_wire.specs.Ids.{front}
use Rattle.swim_wire.specs.Round.{Lists, MayDraw, redraw, advance}
use Rattle.swim_history.specs.declared.calls.Call.{Call}
use Rattle.swim_history.specs.declared.calls.Call.TheVariants.{Tick, Hear, Join, Remove}
use Rattle.swim_history.specs.declared.replies.Reply.{Reply}
use Rattle.swim_history.specs.declared.replies.Reply.TheVariants.{Quiet, Started, Asked, Joined, Removed, Refused}
use Rattle.swim_history.specs.declared.replies.Refusal.TheVariants.{Myself, Listed, Full, Unknown, Spent}
use Rattle.swim_history.specs.declared.replies.Probe.{Probe}
use Rattle.swim_history.specs.declared.entries.Choice.{Choice}
use Rattle.swim_history.specs.declared.entries.Choice.TheVariants.{Nothing}
use Rattle.swim_history.specs.declared.entries.Entry.{Entry}
use Rattle.swim_history.specs.Setting.{Setting}
use Rattle.swim_history.specs.Events.{is_starting, probe_in}
use Rattle.swim_history.specs.Round.{lists, lists_then, drawn}
use Rattle.swim_history.specs.Probes.{probes, drawn_orders, is_relisting, relists, ProbesAsDrawn}
use Rattle.swim_history.specs.Run.{IsProbe, Answers, IsRun}
use Rattle.swim_history.specs.Laws.Run.{hears_no_start}

-- the members that probes name
abbrev targets : List Probe → List ℕ
targets found = map (λ probe. probe.target) found

-- who is next is probed
next_probed : (o : Setting) (h : List Entry) (number : ℕ) (next : Option ℕ) (probe : Option Probe) →
    IsProbe o h number next probe → targets (option_to_list probe) ≡ option_to_list next
next_probed o h number None probe p = ap (λ (x : Option Probe). targets (option_to_list x)) p
next_probed o h number (Some m) probe p = ap (λ (x : Option Probe). targets (option_to_list x)) p.2

-- who is next goes off those that are to be probed
front_and_rest : (r : Lists) → option_to_list (front r.rest) ++ (advance r).rest ≡ r.rest
front_and_rest r = by r.rest
  where
    by : (rest : List ℕ) → option_to_list (front rest) ++ (advance (record { probed = r.probed; rest = rest })).rest ≡
        rest
    by [] = refl
    by (id ∷ ids) = refl

-- an order is drawn where nobody is left to be probed
rest_redrawn : (order : Option (List ℕ)) (r : Lists) → MayDraw order r → (redraw order r).rest ≡ r.rest ++ concat
    (option_to_list order)
rest_redrawn None r may = sym (append-nil r.rest)
rest_redrawn (Some order) r may = rw may.0 (sym (append-nil order))

-- what begins no period probes nobody
no_probe : (reply : Reply) → is_starting reply ≡ false → probe_in reply ≡ None
no_probe (Started judged probe) starts = absurd cc
no_probe reply starts = refl

-- what an entry adds: those probed by it, and those to be probed after it, are those to be probed before it, and
-- then the order drawn
adds : (o : Setting) (h : List Entry) (call : Call) (reply : Reply) (choice : Choice) → Answers o h call reply choice →
    is_relisting call reply ≡ false
    → targets (option_to_list (probe_in reply)) ++ (lists_then call reply choice (lists o h)).rest ≡ (lists o h).rest
    ++ concat (option_to_list (drawn choice))
adds o h Tick (Refused Spent) Nothing a same = sym (append-nil (lists o h).rest)
adds o h Tick (Started (Some judged) probe) choice a same = absurd cc
adds o h Tick (Started None probe) choice a same =
    let r = redraw (drawn choice) (lists o h) in
    ap (λ first. first ++ (advance r).rest) (next_probed o h _ (front r.rest) probe a.probes)
    ∙ front_and_rest r
    ∙ rest_redrawn (drawn choice) (lists o h) a.draws
adds o h Tick (Asked m peer number relays) Nothing a same = sym (append-nil (lists o h).rest)
adds o h Tick Quiet Nothing a same = sym (append-nil (lists o h).rest)
adds o h (Hear source m) reply Nothing a same =
    rw (no_probe reply (hears_no_start o h m source m.kind reply a)) (sym (append-nil (lists o h).rest))
adds o h (Join id peer) (Refused Myself) Nothing a same = sym (append-nil (lists o h).rest)
adds o h (Join id peer) (Refused Listed) Nothing a same = sym (append-nil (lists o h).rest)
adds o h (Join id peer) (Refused Full) Nothing a same = sym (append-nil (lists o h).rest)
adds o h (Join id peer) (Joined place) choice a same = absurd cc
adds o h (Remove id) (Refused Myself) Nothing a same = sym (append-nil (lists o h).rest)
adds o h (Remove id) (Refused Unknown) Nothing a same = sym (append-nil (lists o h).rest)
adds o h (Remove id) Removed choice a same = absurd cc
adds o h call reply choice a same = absurd a

pub probes_as_drawn : (o : Setting) (h : List Entry) → IsRun o h → ProbesAsDrawn o h
probes_as_drawn o [] run same = refl
probes_as_drawn o (e ∷ h) run same =
    let parts = or_parts (relists e) (list_any relists h) same in
    let again : targets (probes h) ++ (lists o h).rest ≡ concat (drawn_orders h) = probes_as_drawn o h run.1 parts.1 in
    let probed = option_to_list (probe_in e.reply) in
    let rest = (lists o (e ∷ h)).rest in
    let order = option_to_list (drawn e.choice) in
    ap (λ found. found ++ rest) (map-append (λ (probe : Probe). probe.target) (probes h) probed)
    ∙ append_assoc (targets (probes h)) (targets probed) rest
    ∙ ap (λ added. targets (probes h) ++ added) (adds o h e.call e.reply e.choice run.0.answer parts.0)
    ∙ sym (append_assoc (targets (probes h)) (lists o h).rest (concat order))
    ∙ ap (λ before. before ++ concat order) again
    ∙ sym (concat-append (drawn_orders h) order)
