use Rattle.std.proofs.Common.{◌≡◌, ℕ, ◌+◌, ◌<◌, List, ◌∷◌, ◌++◌, length, get_or, drop, sym, ap, ◌∙◌, rules}
use Rattle.std.proofs.Common.{append_assoc, codes}
use Rattle.std.specs.Prelude.{decimal}
use Rattle.std.proofs.Output.{has_written_append}
use Rattle.std.proofs.lemmas.List.{at_drop_more}
use Rattle.swim_history.specs.declared.replies.Relay.{Relay}
use Rattle.swim_verdicts.specs.VerdictJson.{ids_behind}
use Rattle.swim_verdicts.proofs.verdict_json.IdsDisplay.fmt.Goals as goal

-- the id of one relay, and those of the others behind it
one_more : (lead : List ℕ) (all : List Relay) (at : ℕ) (relay : Relay) → at < length all → relay ≡ get_or all at relay
    → (lead ++ decimal relay.id) ++ ids_behind (codes ",") (drop (at + 1) all) ≡ ids_behind lead (drop at all)
one_more lead all at relay fits is =
    append_assoc lead (decimal relay.id) _
    ∙ (ap (λ (r : Relay). ids_behind lead (r ∷ drop (at + 1) all)) is
    ∙ sym (at_drop_more (ids_behind lead) all at relay fits))

pub loop-relay-preserved : goal.loop-relay-preserved
loop-relay-preserved g c = (
  search rules,
  λ plain.
      let so_far = c.loop-relay.invariant.1 plain in
      let text = c.loop-relay.before.now ++ decimal c.relay-item.result.id in (
        so_far.0 ++ text,
        has_written_append _ _ _ _ _ _ so_far.1 (search rules),
        append_assoc so_far.0 text _
            ∙ (ap (λ (t : List ℕ). so_far.0 ++ t)
            (one_more c.loop-relay.before.now c.args.self.now.0.now c.loop-relay.relay-index c.relay-item.result
            c.loop-relay-test.true c.relay-item.is)
            ∙ so_far.2),
      ),
)
