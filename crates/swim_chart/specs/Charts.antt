-- The whole picture of a probe.
use Rattle.std.specs.Prelude.{ℕ, List, ◌++◌, codes}
use Rattle.swim_chart.specs.declared.charts.Arrow.{Arrow}
use Rattle.swim_chart.specs.declared.charts.Chart.{Chart}
use Rattle.swim_chart.specs.Arrows.{arrows_text}
use Rattle.swim_chart.specs.Frame.{end_text, head_text, lanes_text}
use Rattle.swim_chart.specs.Notes.{notes_text}

-- the texts beside the strokes stand above all strokes
abbrev pub noted_text : ℕ → List Arrow → List ℕ
noted_text relays arrows =
    codes "</g>\n<g aria-hidden=\"true\">\n" ++ (notes_text relays arrows ++ codes "</g>\n</svg>\n")

abbrev pub drawn_text : ℕ → List Arrow → List ℕ
drawn_text relays arrows = arrows_text relays arrows ++ noted_text relays arrows

abbrev pub chart_text : Chart → List ℕ
chart_text c =
    head_text c.relays c.probe c.conclusion.now ++ (lanes_text c.relays c.lanes.now ++
    (end_text c.relays c.judged ++ drawn_text c.relays c.arrows.now))
