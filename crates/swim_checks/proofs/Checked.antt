-- What checking does with the bytes that were read.
use Rattle.std.proofs.Common.{◌≡◌, ℕ, ◌<◌, ◌≤◌, true, not, List, length, take, Option, Some, None, Result, Ok, Err}
use Rattle.std.proofs.Common.{refl, sym, ap, ◌∙◌, arith, ltb, inl, inr}
use Rattle.std.proofs.lemmas.Bool.{cases_Bool, ltb-true, lt-ltb, ltb-false}
use Rattle.std.proofs.lemmas.List.{take_all, length-take}
use Rattle.swim_config.specs.declared.config.Config.{Config}
use Rattle.swim_config.specs.declared.config_fault.ConfigFault.{ConfigFault}
use Rattle.swim_config.specs.declared.config_fault.ConfigFault.TheVariants.{Size}
use Rattle.swim_outcomes.specs.declared.outcomes.Outcome.{Outcome}
use Rattle.swim_outcomes.specs.declared.outcomes.Outcome.TheVariants.{Checked, Stopped, Asked, Usage, Unread, Refused}
use Rattle.swim_outcomes.specs.declared.outcomes.Outcome.TheVariants.{Unwritten}
use Rattle.swim_outcomes.specs.declared.outcomes.Outcome.TheVariants.{NoListen, NoControl, NoMemory}
use Rattle.swim_outcomes.specs.declared.outcomes.Outcome.TheVariants.{Socket, NoPlace, NoDaemon}
use Rattle.swim_outcomes.specs.declared.outcomes.Outcome.TheVariants.{NoRandom}
use Rattle.swim_outcomes.specs.declared.outcomes.Outcome.TheVariants.{NoEvents, NoTeller, WatchUnwritten}
use Rattle.swim_outcomes.specs.declared.outcomes.Outcome.TheVariants.{NoWeb, WebOver}
use Rattle.swim_outcomes.specs.declared.outcomes.Outcome.TheVariants.{AskRefused, AskTimeout, Unanswered, AskUnwritten}
use Rattle.swim_outcomes.specs.declared.outcomes.Outcome.TheVariants.{AskUnread, Helped}
use Rattle.swim_checks.specs.Checking.{ChecksKnown, Shows, is_unwritten}
use Rattle.swim_checks.specs.Configured.{IsNoConfiguration}
use Rattle.swim_writer.specs.Documents.{Document}
use Rattle.swim_config.specs.Configuration.{config_of}
use Rattle.swim_config.specs.Inputs.{IsRead}
use Rattle.swim_config.specs.Reading.{OrNoMemory}
use Rattle.swim_telling.specs.Telling.{Written}
use Rattle.swim_text.specs.Streams.{failures_if}

-- of a text that is too large, the first bytes tell as much
pub config_of_first : (text : List ℕ) → config_of (take 65537 text) ≡ config_of text
config_of_first text = elim (cases_Bool (ltb 65536 (length text))) [
  | inl large ↦
      let above = ltb-true 65536 (length text) large in
      let first : 65536 < length (take 65537 text) = omega (arith, length-take 65537 text) in
      rw (lt-ltb 65536 (length (take 65537 text)) first, large) refl
  | inr small ↦
      let below : length text ≤ 65537 = omega (arith, ltb-false 65536 (length text) small) in
      rw (take_all 65537 text below) refl
]

pub large_read : (text : List ℕ) → 65536 < length text → 65536 < length (take 65537 text)
large_read text large = omega (arith, length-take 65537 text)

-- a configuration that was read was shown
known_shown : (text items : List ℕ) (config : Config) → items ≡ take 65537 text →
    OrNoMemory (Ok config) (config_of items) → config_of text ≡ Ok config
known_shown text items config read is = elim is [
  | inl refused ↦ absurd cc
  | inr same ↦ sym (same ∙ (ap config_of read ∙ config_of_first text))
]

pub shown : (left old new : Option (List ℕ)) (faults then : Written) (items : List ℕ) (config : Config)
    (outcome : Outcome) →
    IsRead left items true → OrNoMemory (Ok config) (config_of items) → Shows config old new faults then outcome →
    ChecksKnown left old new faults then outcome
shown None old new faults then items config Checked read is shows = tt
shown None old new faults then items config Unwritten read is shows = tt
shown None old new faults then items config Usage read is shows = absurd shows
shown None old new faults then items config Unread read is shows = absurd shows
shown None old new faults then items config (Refused fault) read is shows = absurd shows
shown None old new faults then items config Stopped read is shows = absurd shows
shown None old new faults then items config Asked read is shows = absurd shows
shown None old new faults then items config NoListen read is shows = absurd shows
shown None old new faults then items config NoControl read is shows = absurd shows
shown None old new faults then items config NoMemory read is shows = absurd shows
shown None old new faults then items config Socket read is shows = absurd shows
shown None old new faults then items config NoPlace read is shows = absurd shows
shown None old new faults then items config NoDaemon read is shows = absurd shows
shown None old new faults then items config NoRandom read is shows = absurd shows
shown None old new faults then items config NoEvents read is shows = absurd shows
shown None old new faults then items config NoTeller read is shows = absurd shows
shown None old new faults then items config WatchUnwritten read is shows = absurd shows
shown None old new faults then items config NoWeb read is shows = absurd shows
shown None old new faults then items config WebOver read is shows = absurd shows
shown None old new faults then items config AskRefused read is shows = absurd shows
shown None old new faults then items config AskTimeout read is shows = absurd shows
shown None old new faults then items config Unanswered read is shows = absurd shows
shown None old new faults then items config AskUnwritten read is shows = absurd shows
shown None old new faults then items config AskUnread read is shows = absurd shows
shown None old new faults then items config Helped read is shows = absurd shows
shown (Some text) old new faults then items config Checked read is shows =
    record { config = config; is = known_shown text items config read is; shows = shows }
shown (Some text) old new faults then items config Unwritten read is shows =
    record { config = config; is = known_shown text items config read is; shows = shows }
shown (Some text) old new faults then items config Usage read is shows = absurd shows
shown (Some text) old new faults then items config Unread read is shows = absurd shows
shown (Some text) old new faults then items config (Refused fault) read is shows = absurd shows
shown (Some text) old new faults then items config Stopped read is shows = absurd shows
shown (Some text) old new faults then items config Asked read is shows = absurd shows
shown (Some text) old new faults then items config NoListen read is shows = absurd shows
shown (Some text) old new faults then items config NoControl read is shows = absurd shows
shown (Some text) old new faults then items config NoMemory read is shows = absurd shows
shown (Some text) old new faults then items config Socket read is shows = absurd shows
shown (Some text) old new faults then items config NoPlace read is shows = absurd shows
shown (Some text) old new faults then items config NoDaemon read is shows = absurd shows
shown (Some text) old new faults then items config NoRandom read is shows = absurd shows
shown (Some text) old new faults then items config NoEvents read is shows = absurd shows
shown (Some text) old new faults then items config NoTeller read is shows = absurd shows
shown (Some text) old new faults then items config WatchUnwritten read is shows = absurd shows
shown (Some text) old new faults then items config NoWeb read is shows = absurd shows
shown (Some text) old new faults then items config WebOver read is shows = absurd shows
shown (Some text) old new faults then items config AskRefused read is shows = absurd shows
shown (Some text) old new faults then items config AskTimeout read is shows = absurd shows
shown (Some text) old new faults then items config Unanswered read is shows = absurd shows
shown (Some text) old new faults then items config AskUnwritten read is shows = absurd shows
shown (Some text) old new faults then items config AskUnread read is shows = absurd shows
shown (Some text) old new faults then items config Helped read is shows = absurd shows

-- a fault was told
abbrev pub refusal : ConfigFault → Result Config ConfigFault
refusal fault = Err fault

pub told : (left written : Option (List ℕ)) (faults : Written) (items : List ℕ) (fault : ConfigFault) →
    IsRead left items true → OrNoMemory (refusal fault) (config_of items) →
    (65536 < length items → refusal fault ≡ refusal Size) →
    ChecksKnown left written written faults faults (Refused fault)
told None written faults items fault read is size = tt
told (Some text) written faults items fault read is size =
    let same : config_of items ≡ config_of text = ap config_of read ∙ config_of_first text in
    record {
      kept = (refl, refl);
      is = rw (← same) is;
      size = λ (large : 65536 < length text). let e = size (rw read (large_read text large)) in cc;
    }

-- ---- a file

-- without a configuration no write failed
pub none_unwritten : (path : List ℕ) (old new : Option (List Document)) (outcome : Outcome) (n : ℕ) →
    IsNoConfiguration path old new outcome → n ≡ failures_if n (not (is_unwritten outcome))
none_unwritten path old new Unread n is = refl
none_unwritten path old new (Refused fault) n is = refl
none_unwritten path old new Checked n is = absurd is
none_unwritten path old new Stopped n is = absurd is
none_unwritten path old new Asked n is = absurd is
none_unwritten path old new AskRefused n is = absurd is
none_unwritten path old new AskTimeout n is = absurd is
none_unwritten path old new Unanswered n is = absurd is
none_unwritten path old new AskUnwritten n is = absurd is
none_unwritten path old new AskUnread n is = absurd is
none_unwritten path old new Helped n is = absurd is
none_unwritten path old new NoRandom n is = absurd is
none_unwritten path old new Usage n is = absurd is
none_unwritten path old new Unwritten n is = absurd is
none_unwritten path old new NoListen n is = absurd is
none_unwritten path old new NoControl n is = absurd is
none_unwritten path old new NoEvents n is = absurd is
none_unwritten path old new NoMemory n is = absurd is
none_unwritten path old new Socket n is = absurd is
none_unwritten path old new NoPlace n is = absurd is
none_unwritten path old new NoDaemon n is = absurd is
none_unwritten path old new NoTeller n is = absurd is
none_unwritten path old new WatchUnwritten n is = absurd is
none_unwritten path old new NoWeb n is = absurd is
none_unwritten path old new WebOver n is = absurd is
