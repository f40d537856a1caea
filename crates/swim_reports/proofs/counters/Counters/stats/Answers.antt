use Rattle.std.proofs.Common.{List, ℕ, ◌++◌, ap, inr, ◌∙◌}
use Rattle.swim_metrics.specs.Texts.{stats_text}
use Rattle.swim_reports.proofs.counters.Counters.stats.Goals as goal

pub returns-then-put_stats : goal.returns-then-put_stats
returns-then-put_stats g c =
    let out = c.outside.result in
    inr (
      c.in-Some.figures,
      out,
      c.in-Some.ensures.facts,
      c.in-Some.ensures.files,
      c.in-Some.ensures.keys,
      c.outside.ensures,
      ap (λ t. t.items) c.into_text.ensures ∙
          (c.if-put_stats.ensures.bytes
          ∙ (ap (λ (old : List ℕ). old ++ stats_text c.measures.result.now out) c.new-sink.ensures
          ∙ ap (λ m. stats_text m out) c.measures.ensures)),
    )
