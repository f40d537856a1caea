-- Worked strokes: the definitions, evaluated on datagrams whose places were worked out by hand.
use Rattle.std.specs.Prelude.{◌≡◌, ℕ, Bool, true, false, ◌++◌, Option, Some, None, codes, refl}
use Rattle.std.specs.Fmt.{digits}
use Rattle.swim_wire.specs.declared.messages.Kind.{Kind}
use Rattle.swim_wire.specs.declared.messages.Kind.TheVariants as kinds
use Rattle.swim_trace.specs.declared.fates.Fate.{Fate}
use Rattle.swim_trace.specs.declared.fates.Fate.TheVariants.{Dropped, Lost, Unsent}
use Rattle.swim_trace.specs.declared.legs.Leg.{Leg}
use Rattle.swim_chart.specs.declared.charts.Arrow.{Arrow}
use Rattle.swim_chart.specs.declared.roles.Role.{Role}
use Rattle.swim_chart.specs.declared.roles.Role.TheVariants.{Ack, Request, Forward}
use Rattle.swim_chart.specs.Arrows.{arrow_text}
use Rattle.swim_chart.specs.Notes.{note_text}
use Rattle.swim_chart.specs.Roles.{role_at}

arrow : Role → Leg → Fate → Bool → Option ℕ → Option ℕ → Arrow
arrow role leg fate late sent heard = record {
  role = role;
  way = record { leg = leg; fate = fate };
  is_late = late;
  sent = sent;
  heard = heard;
}

leg : Kind → ℕ → ℕ → Leg
leg kind from to = record { kind = kind; from = from; to = to }

-- member 1 probes member 3, whose ack is lost
lost_ack : Arrow
lost_ack = arrow Ack (leg kinds.Ack 3 1) Lost false (Some 211) None

draws_half : arrow_text 2 lost_ack ≡
    codes "<g class=\"ack\" role=\"img\"><title>ack 3 -> 1 (lost), sent at entry 211</title>"
    ++ (codes "<path class=\"half\" d=\"M200 254L240 222\"/>"
    ++ codes "<use class=\"lost\" href=\"#lost\" x=\"240\" y=\"222\"/></g>\n")
unfolding digits lost_ack arrow leg
draws_half = refl

-- the ack that the first of two relays forwards comes after the end of the period, which is at 840
late_ack : Arrow
late_ack = arrow (Forward 0) (leg kinds.Ack 5 1) Dropped true (Some 79) (Some 96)

draws_behind_the_end : arrow_text 2 late_ack ≡
    codes "<g class=\"ack\" role=\"img\"><title>ack 5 -> 1 (late), sent at entry 79, heard at entry 96</title>"
    ++ (codes "<path class=\"whole\" d=\"M640 318L960 190\"/>"
    ++ codes "<use class=\"ignored\" href=\"#ignored\" x=\"960\" y=\"190\"/></g>\n")
unfolding digits late_ack arrow leg
draws_behind_the_end = refl

notes_behind_the_end : note_text 2 late_ack ≡
    codes "<text class=\"label\" x=\"800\" y=\"254\" dx=\"8\" dy=\"12\">ack</text>\n"
    ++ codes "<text class=\"entry\" x=\"960\" y=\"190\" dy=\"-11\">96</text>\n"
unfolding digits late_ack arrow leg
notes_behind_the_end = refl

-- what wasn't sent isn't drawn
unsent : Arrow
unsent = arrow (Forward 1) (leg kinds.Ack 2 1) Unsent false None None

draws_nothing : (arrow_text 2 unsent ≡ codes "") × (note_text 2 unsent ≡ codes "")
unfolding unsent arrow leg
draws_nothing = (refl, refl)

-- of two relays, the tenth datagram is what the second forwards
knows_roles : (role_at 1 ≡ Ack) × (role_at 2 ≡ Request 0) × (role_at 9 ≡ Forward 1)
knows_roles = (refl, refl, refl)
