-- The small texts beside the strokes: the kinds of the datagrams, and the entries that sent and heard them.
use Rattle.std.specs.Prelude.{ℕ, ◌==◌, ◌&&◌, Bool, true, List, [], ◌∷◌, ◌++◌, Option, Some, None, codes, decimal}
use Rattle.std.specs.Prelude.{if◌then◌else◌}
use Rattle.swim_chart.specs.declared.charts.Arrow.{Arrow}
use Rattle.swim_chart.specs.declared.roles.Role.{Role}
use Rattle.swim_chart.specs.declared.roles.Role.TheVariants.{Ping, Ack, Request, RelayPing, RelayAck, Forward}
use Rattle.swim_chart.specs.declared.spots.Point.{Point}
use Rattle.swim_chart.specs.Arrows.{is_shown, kind_text}
use Rattle.swim_chart.specs.Spots.{end_of, line_of, middle, start_of}

-- beside the middle of a line: above it if the line goes down, and below it if it goes up
abbrev pub label_fall : Role → List ℕ
label_fall Ping = codes "-3"
label_fall Ack = codes "12"
label_fall (Request relay) = codes "-3"
label_fall (RelayPing relay) = codes "12"
label_fall (RelayAck relay) = codes "-3"
label_fall (Forward relay) = codes "12"

abbrev pub label_at : Point → Arrow → List ℕ
label_at p a =
    codes "<text class=\"label\" x=\"" ++ (decimal p.x ++ (codes "\" y=\"" ++ (decimal p.y ++
    (codes "\" dx=\"8\" dy=\"" ++ (label_fall a.role ++ (codes "\">" ++ (kind_text a.way.leg.kind ++
    codes "</text>\n")))))))

-- of the requests, which leave together, the first alone has its kind beside it
abbrev pub is_labelled : Role → Bool
is_labelled Ping = true
is_labelled Ack = true
is_labelled (Request relay) = relay == 0
is_labelled (RelayPing relay) = true
is_labelled (RelayAck relay) = true
is_labelled (Forward relay) = true

abbrev pub label_text : ℕ → Arrow → List ℕ
label_text relays a =
    if is_shown a.way.fate && is_labelled a.role then label_at (middle (line_of relays a)) a else []

-- the entry that sent a datagram, if that isn't one that heard another: that of the ping, and of all requests once
abbrev pub first_sent : Role → Option ℕ → Option ℕ
first_sent Ping sent = sent
first_sent Ack sent = None
first_sent (Request relay) sent = if relay == 0 then sent else None
first_sent (RelayPing relay) sent = None
first_sent (RelayAck relay) sent = None
first_sent (Forward relay) sent = None

-- an entry below or above the line of its lane, on the side that the strokes leave free
abbrev pub number_fall : Role → List ℕ
number_fall Ping = codes "18"
number_fall Ack = codes "-11"
number_fall (Request relay) = codes "18"
number_fall (RelayPing relay) = codes "-11"
number_fall (RelayAck relay) = codes "18"
number_fall (Forward relay) = codes "-11"

abbrev pub number_text : Point → List ℕ → Option ℕ → List ℕ
number_text p fall None = []
number_text p fall (Some entry) =
    codes "<text class=\"entry\" x=\"" ++ (decimal p.x ++ (codes "\" y=\"" ++ (decimal p.y ++ (codes "\" dy=\"" ++
    (fall ++ (codes "\">" ++ (decimal entry ++ codes "</text>\n")))))))

abbrev pub numbers_text : ℕ → Arrow → List ℕ
numbers_text relays a =
    number_text (start_of relays a.role) (codes "-11") (first_sent a.role a.sent) ++
    number_text (end_of relays a) (number_fall a.role) a.heard

abbrev pub note_text : ℕ → Arrow → List ℕ
note_text relays a = label_text relays a ++ numbers_text relays a

abbrev pub notes_text : ℕ → List Arrow → List ℕ
notes_text relays [] = []
notes_text relays (a ∷ arrows) = note_text relays a ++ notes_text relays arrows
