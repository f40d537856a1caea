-- The strokes that stand for the datagrams of a probe, each with its words for those who hear the picture.
use Rattle.std.specs.Prelude.{ℕ, Bool, true, false, List, [], ◌∷◌, ◌++◌, Option, Some, None, codes, decimal}
use Rattle.std.specs.Prelude.{if◌then◌else◌}
use Rattle.swim_wire.specs.declared.messages.Kind.{Kind}
use Rattle.swim_wire.specs.declared.messages.Kind.TheVariants as kinds
use Rattle.swim_trace.specs.declared.fates.Fate.{Fate}
use Rattle.swim_trace.specs.declared.fates.Fate.TheVariants.{Passed, Dropped, Lost, Unsent, Contradicted, Untold}
use Rattle.swim_chart.specs.declared.charts.Arrow.{Arrow}
use Rattle.swim_chart.specs.declared.spots.Line.{Line}
use Rattle.swim_chart.specs.declared.spots.Point.{Point}
use Rattle.swim_chart.specs.Spots.{line_of, middle}

abbrev pub kind_text : Kind → List ℕ
kind_text kinds.Ping = codes "ping"
kind_text kinds.PingReq = codes "ping-req"
kind_text kinds.Ack = codes "ack"

-- a datagram that wasn't sent has no stroke
abbrev pub is_shown : Fate → Bool
is_shown Passed = true
is_shown Dropped = true
is_shown Lost = true
is_shown Unsent = false
is_shown Contradicted = true
is_shown Untold = true

-- ---- words

abbrev pub fate_text : Bool → Fate → List ℕ
fate_text late Passed = codes "arrived"
fate_text late Dropped = if late then codes "late" else codes "ignored"
fate_text late Lost = codes "lost"
fate_text late Unsent = codes "not sent"
fate_text late Contradicted = codes "never sent"
fate_text late Untold = codes "unknown"

abbrev pub entry_text : List ℕ → Option ℕ → List ℕ
entry_text word None = []
entry_text word (Some entry) = word ++ decimal entry

-- what opens a stroke: its colour, by the kind of the datagram, and what became of it
abbrev pub opening_text : Arrow → List ℕ
opening_text a =
    codes "<g class=\"" ++ (kind_text a.way.leg.kind ++ (codes "\" role=\"img\"><title>" ++
    (kind_text a.way.leg.kind ++ (codes " " ++ (decimal a.way.leg.from ++ (codes " -> " ++
    (decimal a.way.leg.to ++ (codes " (" ++ (fate_text a.is_late a.way.fate ++ codes ")")))))))))

abbrev pub words_text : Arrow → List ℕ
words_text a = opening_text a ++ (entry_text (codes ", sent at entry ") a.sent ++
    entry_text (codes ", heard at entry ") a.heard)

-- ---- strokes

-- a line
abbrev pub path_text : List ℕ → Line → List ℕ
path_text shape l =
    codes "</title><path class=\"" ++ (shape ++ (codes "\" d=\"M" ++ (decimal l.from.x ++ (codes " " ++
    (decimal l.from.y ++ (codes "L" ++ (decimal l.to.x ++ (codes " " ++ (decimal l.to.y ++ codes "\"/></g>\n")))))))))

-- a line, and a mark on it
abbrev pub marked_text : List ℕ → Line → List ℕ → Point → List ℕ
marked_text shape l mark p =
    codes "</title><path class=\"" ++ (shape ++ (codes "\" d=\"M" ++ (decimal l.from.x ++ (codes " " ++
    (decimal l.from.y ++ (codes "L" ++ (decimal l.to.x ++ (codes " " ++ (decimal l.to.y ++
    (codes "\"/><use class=\"" ++ (mark ++ (codes "\" href=\"#" ++ (mark ++ (codes "\" x=\"" ++ (decimal p.x ++
    (codes "\" y=\"" ++ (decimal p.y ++ codes "\"/></g>\n")))))))))))))))))

-- up to the middle, and from there on
abbrev pub first_half : Line → Line
first_half l = record { from = l.from; to = middle l }

abbrev pub second_half : Line → Line
second_half l = record { from = middle l; to = l.to }

-- an arrow, if it was heard, with a ring where it was ignored; half a line to a cross if it was lost; half an arrow
-- from a bar if its sender never sent it; and a dotted line if no journal tells it
abbrev pub stroke_text : Fate → Line → List ℕ
stroke_text Passed l = path_text (codes "whole") l
stroke_text Dropped l = marked_text (codes "whole") l (codes "ignored") l.to
stroke_text Lost l = marked_text (codes "half") (first_half l) (codes "lost") (middle l)
stroke_text Unsent l = []
stroke_text Contradicted l = marked_text (codes "whole") (second_half l) (codes "unsent") (middle l)
stroke_text Untold l = path_text (codes "unknown") l

abbrev pub shown_text : ℕ → Arrow → List ℕ
shown_text relays a = words_text a ++ stroke_text a.way.fate (line_of relays a)

abbrev pub arrow_text : ℕ → Arrow → List ℕ
arrow_text relays a = if is_shown a.way.fate then shown_text relays a else []

abbrev pub arrows_text : ℕ → List Arrow → List ℕ
arrows_text relays [] = []
arrows_text relays (a ∷ arrows) = arrow_text relays a ++ arrows_text relays arrows
