use Rattle.std.proofs.Common.{◌≡◌, ℕ, List, true, refl, sym, ap, subst, ◌∙◌}
use Rattle.swim_text.specs.Streams.{Puts}
use Rattle.swim_chart.specs.declared.charts.Arrow.{Arrow}
use Rattle.swim_chart.specs.declared.spots.Point.{Point}
use Rattle.swim_chart.specs.Arrows.{is_shown}
use Rattle.swim_chart.specs.Notes.{is_labelled, label_at, label_text}
use Rattle.swim_chart.specs.Spots.{line_of, middle}
use Rattle.swim_chart.proofs.notes.put_label.Goals as goal

labelled : (relays : ℕ) (a : Arrow) (p : Point) → p ≡ middle (line_of relays a) → is_shown a.way.fate ≡ true →
    is_labelled a.role ≡ true → label_at p a ≡ label_text relays a
labelled relays a p is shown label = rw (is, shown, label) refl

pub returns-then-is_labelled-clause-bytes : goal.returns-then-is_labelled-clause-bytes
returns-then-is_labelled-clause-bytes g c =
    let P : List ℕ → Type 0 =
    λ t. Puts (g.W.Sink.written c.args.writer.now) (g.W.Sink.written c.put_label_at.new.writer) t
    c.put_label_at.result in
    subst P (labelled c.args.relays c.args.arrow.now c.middle.result (c.middle.ensures ∙ ap middle c.line_of.ensures)
    (sym c.is_shown.ensures ∙ c.if-is_shown.true) (sym c.is_labelled.ensures ∙ c.if-is_labelled.true))
    c.put_label_at.ensures.bytes
