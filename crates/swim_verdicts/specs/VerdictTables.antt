-- The table of a verdict's page: what the evidence has.
use Rattle.std.specs.Prelude.{ℕ, List, [], ◌∷◌, ◌++◌, Option, Some, None, codes, decimal}
use Rattle.swim_evidence.specs.declared.findings.Ask.{Ask}
use Rattle.swim_evidence.specs.declared.findings.Evidence.{Evidence}
use Rattle.swim_history.specs.declared.replies.Relay.{Relay}

-- the ids of relays, with this text in front of the first and a comma in front of each other
abbrev pub ids_after : List ℕ → List Relay → List ℕ
ids_after lead [] = []
ids_after lead (relay ∷ relays) = (lead ++ decimal relay.id) ++ ids_after (codes ", ") relays

abbrev pub relays_text : List Relay → List ℕ
relays_text [] = codes "none"
relays_text (relay ∷ relays) = ids_after [] (relay ∷ relays)

abbrev pub place_text : ℕ → List ℕ
place_text place = codes " at entry " ++ decimal place

-- relays, and the entry in which they were asked
abbrev pub asked_text : List Relay → ℕ → List ℕ
asked_text relays place = relays_text relays ++ place_text place

-- the same, if anybody was asked
abbrev pub ask_text : Option Ask → List ℕ
ask_text None = codes "none"
ask_text (Some ask) = asked_text ask.relays.items ask.place

-- what stands between an entry and its time
abbrev pub before_time : List ℕ → List ℕ
before_time [] = []
before_time (sign ∷ time) = codes ", "

-- the rows: the entry and the time of the probe, who was asked, and which entry ended the period with that number
abbrev pub rows_with : List ℕ → ℕ → ℕ → ℕ → List ℕ → List ℕ → List ℕ
rows_with before probed number judged time asked =
    codes "<tr><th scope=\"row\">Probed</th><td>at entry "
    ++ (decimal probed ++ (before
    ++ (time ++ (codes "</td></tr>\n<tr><th scope=\"row\">Relays asked</th><td>"
    ++ (asked ++ (codes "</td></tr>\n<tr><th scope=\"row\">Acks of period "
    ++ (decimal number ++ (codes "</th><td>none until entry "
    ++ (decimal judged ++ codes "</td></tr>\n")))))))))

abbrev pub rows_text : ℕ → ℕ → ℕ → List ℕ → List ℕ → List ℕ
rows_text probed number judged time asked = rows_with (before_time time) probed number judged time asked

-- the same of evidence
abbrev pub table_text : Evidence → List ℕ → List ℕ
table_text e time = rows_text e.probed e.number e.judged time (ask_text e.ask)
