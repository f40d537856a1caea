-- What stands round the strokes: the words of the picture, the lanes of the members, and where the period ends.
use Rattle.std.specs.Prelude.{ℕ, ◌==◌, List, [], ◌∷◌, ◌++◌, codes, decimal, if◌then◌else◌}
use Rattle.swim_trace.specs.declared.acts.ProbeName.{ProbeName}
use Rattle.swim_chart.specs.declared.charts.Lane.{Lane}
use Rattle.swim_chart.specs.declared.style.TheConstants.{LEGEND, STYLE}
use Rattle.swim_chart.specs.Spots.{bottom, height, period_end, right, spot, width}

-- a character of a text within XML
abbrev pub escaped_one : ℕ → List ℕ
escaped_one c = if c == 38 then codes "&amp;" else (if c == 60 then codes "&lt;" else c ∷ [])

abbrev pub escaped : List ℕ → List ℕ
escaped [] = []
escaped (c ∷ text) = escaped_one c ++ escaped text

-- the root, with the size
abbrev pub root_text : ℕ → List ℕ
root_text relays =
    codes "<svg xmlns=\"http://www.w3.org/2000/svg\" width=\"" ++ (decimal (width relays) ++ (codes "\" height=\"" ++
    (decimal (height relays) ++ (codes "\" viewBox=\"0 0 " ++ (decimal (width relays) ++ (codes " " ++
    (decimal (height relays) ++ (codes "\" lang=\"en\" role=\"graphics-document document\"" ++
    codes " aria-labelledby=\"title\" aria-describedby=\"desc\">\n"))))))))

-- the title, how all looks, and the heading
abbrev pub titled_text : ProbeName → List ℕ
titled_text p =
    codes "<title id=\"title\">Probe of member " ++ (decimal p.target ++ (codes " by member " ++ (decimal p.initiator ++
    (codes ", period " ++ (decimal p.number ++ (codes "</title>\n" ++ (STYLE.now ++
    (codes "<text class=\"heading\" x=\"24\" y=\"32\">Member " ++ (decimal p.initiator ++ (codes " judged member " ++
    (decimal p.target ++ (codes " failed in period " ++ (decimal p.number ++
    codes "</text>\n<text x=\"24\" y=\"56\">")))))))))))))

-- these, what is concluded, and the legend
abbrev pub head_text : ℕ → ProbeName → List ℕ → List ℕ
head_text relays p conclusion = root_text relays ++ (titled_text p ++ (escaped conclusion ++ LEGEND.now))

-- ---- lanes

abbrev pub place_text : ℕ → List ℕ
place_text place =
    if place == 0 then codes "initiator" else (if place == 1 then codes "target" else codes "relay")

abbrev pub lane_text : ℕ → Lane → List ℕ
lane_text relays lane =
    codes "<path class=\"lane\" d=\"M120 " ++ (decimal (spot 0 lane.place).y ++ (codes "H" ++ (decimal (right relays) ++
    (codes "\"/><text class=\"id\" x=\"24\" y=\"" ++ (decimal (spot 0 lane.place).y ++ (codes "\">" ++
    (decimal lane.member ++ (codes "</text><text class=\"part\" x=\"24\" y=\"" ++ (decimal (spot 0 lane.place).y ++
    (codes "\" dy=\"15\">" ++ (place_text lane.place ++ codes "</text>\n")))))))))))

abbrev pub lanes_text : ℕ → List Lane → List ℕ
lanes_text relays [] = []
lanes_text relays (lane ∷ lanes) = lane_text relays lane ++ lanes_text relays lanes

-- where the period ends, and the entry that judged the target then
abbrev pub end_text : ℕ → ℕ → List ℕ
end_text relays judged =
    codes "<path class=\"end\" d=\"M" ++ (decimal (period_end relays) ++ (codes " 160V" ++ (decimal (bottom relays) ++
    (codes "\"/><text class=\"entry\" x=\"" ++ (decimal (period_end relays) ++ (codes "\" y=\"154\">judged at entry " ++
    (decimal judged ++ codes "</text>\n</g>\n<g id=\"datagrams\">\n")))))))
