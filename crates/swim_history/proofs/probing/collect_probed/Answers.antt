use Rattle.std.proofs.Common.{◌≡◌, ◌<◌, ◌∷◌, ◌+◌, length, map, take, reverse, sym, ap, append-nil, ◌∙◌, arith}
use Rattle.std.proofs.lemmas.List.{map-append}
use Rattle.std.specs.Option.{option_to_list}
use Rattle.swim_history.specs.Events.{probe_in}
use Rattle.swim_history.specs.Probes.{probes, probed_by}
use Rattle.swim_history.specs.Laws.InOrder.{past_more}
use Rattle.swim_history.proofs.InOrder.{no_entry, entry_at, entry_there, begins_it, begins_nothing}
use Rattle.swim_history.proofs.probing.collect_probed.Goals as goal
use Rattle.swim_history.proofs.probing.collect_probed.Goals.{in-Some+in_ok-note_probed, in_default}

pub loop-place-preserved : goal.loop-place-preserved
loop-place-preserved c =
    let entries = c.args.entries.now.items in
    let place = c.loop-place.place in
    let e = entry_at entries place in
    let h = reverse (take place entries) in
    let there : place < length entries = omega (arith, c.len-place-end.ensures, c.loop-place-test.true) in
    let more : reverse (take (place + 1) entries) ≡ e ∷ h = past_more entries place e there ∙
    ap (λ x. x ∷ h) (sym (entry_there entries place there)) in
    let later = map-append probed_by (probes h) (option_to_list (probe_in e.reply)) in
    elim c.match-start.branch [
      | in-Some+in_ok-note_probed w ↦
          let begins = begins_it e.reply w.in-Some.start (w.in-Some.ensures no_entry) in
          rw (more, w.probed-is, w.in_ok-note_probed.ensures, c.loop-place.invariant, ← begins.probe) (sym later)
      | in_default w ↦
          let begins = begins_nothing e.reply (w.in_default.ensures no_entry) in
          rw (more, w.probed-is, c.loop-place.invariant, begins.no_probe)
          (ap (map probed_by) (sym (append-nil (probes h))))
    ]
