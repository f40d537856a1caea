-- The objects of JSON that tell what a journal file comes to which was verified.
use Rattle.std.specs.Prelude.{◌≡◌, ℕ, Bool, true, false, List, [], ◌∷◌, ◌++◌, Option, Some, None, codes, decimal}
use Rattle.std.specs.Prelude.{if◌then◌else◌}
use Rattle.swim_evidence.specs.declared.findings.Ask.{Ask}
use Rattle.swim_evidence.specs.declared.findings.Evidence.{Evidence}
use Rattle.swim_evidence.specs.declared.findings.Finding.{Finding}
use Rattle.swim_evidence.specs.declared.findings.Finding.TheVariants.{Judged, Other, Late}
use Rattle.swim_evidence.specs.declared.findings.Stray.{Stray}
use Rattle.swim_evidence.specs.declared.verdicts.Verdict.{Verdict}
use Rattle.swim_evidence.specs.declared.verdicts.Verdict.TheVariants.{Whole, Cut}
use Rattle.swim_history.specs.declared.replies.Relay.{Relay}
use Rattle.swim_script.specs.declared.faults.ScriptFault.{ScriptFault}
use Rattle.swim_verdicts.specs.declared.examining.Played.{Played}
use Rattle.swim_verdicts.specs.Examined.{IsVerdictOn}
use Rattle.swim_verdicts.specs.JsonTexts.{json_text}
use Rattle.swim_verdicts.specs.declared.verdict_json.StandingKeys.{StandingKeys}

-- how a file stands, by the verdict on it, that begins a new start or doesn't
abbrev pub keys_by : Verdict ScriptFault → Bool → StandingKeys
keys_by Whole new_start = record { is_sound = true; is_cut = false; is_new_start = new_start }
keys_by Cut new_start = record { is_sound = true; is_cut = true; is_new_start = new_start }
keys_by verdict new_start = record { is_sound = false; is_cut = false; is_new_start = new_start }

-- the same of a file that was played
abbrev pub AreKeysOf : Played → Bool → StandingKeys → Type 0
AreKeysOf p new_start keys = (v : Verdict ScriptFault) × IsVerdictOn p v × (keys ≡ keys_by v new_start)

abbrev pub truth : Bool → List ℕ
truth is = if is then codes "true" else codes "false"

-- whether nothing speaks against a file, whether it is cut, and whether it begins a new start
abbrev pub standing_keys : StandingKeys → List ℕ
standing_keys s =
    codes ",\"sound\":" ++ (truth s.is_sound
    ++ (codes ",\"cut\":" ++ (truth s.is_cut
    ++ (codes ",\"new_start\":" ++ truth s.is_new_start))))

-- the object of the file with this path: how many entries it has, how many of them are confirmed, and how many periods
-- and judgements these tell
abbrev pub file_text : List ℕ → ℕ → ℕ → ℕ → ℕ → StandingKeys → List ℕ
file_text path entries confirmed periods judged standing =
    codes "{\"file\":" ++ (json_text path
    ++ (codes ",\"entries\":" ++ (decimal entries
    ++ (codes ",\"confirmed\":" ++ (decimal confirmed
    ++ (codes ",\"periods\":" ++ (decimal periods
    ++ (codes ",\"judged\":" ++ (decimal judged ++ (standing_keys standing ++ codes "}\n"))))))))))

-- the object of an entry
abbrev pub spot_text : List ℕ → ℕ → List ℕ
spot_text path place =
    codes "{\"file\":" ++ (json_text path ++ (codes ",\"entry\":" ++ (decimal place ++ codes "}")))

-- the key of a time, if there is one
abbrev pub time_key : List ℕ → List ℕ
time_key [] = []
time_key (sign ∷ time) = codes ",\"time\":" ++ sign ∷ time

-- the ids of relays, with this text in front of the first and a comma in front of each other
abbrev pub ids_behind : List ℕ → List Relay → List ℕ
ids_behind lead [] = []
ids_behind lead (relay ∷ relays) = lead ++ (decimal relay.id ++ ids_behind (codes ",") relays)

-- the keys of who was asked and in which entry, if anybody was to be; nobody was if no member could be
abbrev pub ask_keys : List ℕ → Option Ask → List ℕ
ask_keys path None = []
ask_keys path (Some ask) =
    codes ",\"relays\":[" ++ (ids_behind [] ask.relays.items
    ++ (codes "],\"asked\":" ++ spot_text path ask.place))

-- the object of a judgement, with the time of its probe
abbrev pub judgement_text : List ℕ → Evidence → List ℕ → List ℕ
judgement_text path e time =
    codes "{\"judged\":" ++ (decimal e.member
    ++ (codes ",\"period\":" ++ (decimal e.number
    ++ (codes ",\"probed\":" ++ (spot_text path e.probed ++ (time_key time ++ (ask_keys path e.ask
    ++ (codes ",\"until\":" ++ (spot_text path e.judged ++ codes "}\n")))))))))

-- the object of an ack that didn't count, and why
abbrev pub ack_text : List ℕ → Stray → List ℕ → List ℕ
ack_text path stray why =
    codes "{\"ack\":" ++ (decimal stray.member
    ++ (codes ",\"period\":" ++ (decimal stray.number
    ++ (codes ",\"at\":" ++ (spot_text path stray.place ++ (codes ",\"why\":\"" ++ (why ++ codes "\"}\n")))))))

-- the object of a finding
abbrev pub finding_text : List ℕ → Finding → List ℕ → List ℕ
finding_text path (Judged e) time = judgement_text path e time
finding_text path (Other stray) time = ack_text path stray (codes "another period")
finding_text path (Late stray) time = ack_text path stray (codes "too late")
