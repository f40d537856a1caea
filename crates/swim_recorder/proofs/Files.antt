-- A header, and what was written behind it of a life's journal.
use Rattle.std.proofs.Common.{◌≡◌, ℕ, Bool, true, false, List, ◌++◌, Option, refl}
use Rattle.swim_text.specs.Streams.{Puts, puts_less, puts_then}
use Rattle.swim_history.specs.declared.entries.Entry.{Entry}
use Rattle.swim_history.specs.Setting.{Setting}
use Rattle.swim_node.specs.Following.{filings_of}
use Rattle.swim_journal.specs.Headings.{header_text}
use Rattle.swim_journal.specs.Journals.{calls_text, AreReadBack}
use Rattle.swim_journal.specs.Replays.{IsJournalFile}
use Rattle.swim_recorder.specs.Files.{IsLifeFile}
use Rattle.swim_recorder.specs.Transcripts.{HasWritten}

-- all that was written behind a header, or behind a front of one
all_text : (fresh page now : Option (List ℕ)) (header calls : List ℕ) (was whole : Bool) → Puts fresh page header was →
    Puts page now calls whole → (was ≡ false → (whole ≡ false) × (now ≡ page)) → Puts fresh now (header ++ calls) whole
all_text fresh page now header calls true whole head put cut = puts_then fresh page now header calls whole head put
all_text fresh page now header calls false whole head put cut =
    rw ((cut refl).0, (cut refl).1) (puts_less fresh page header calls head)

pub life_file : (fresh page now : Option (List ℕ)) (opening : Setting) (limit : ℕ) (seed : List ℕ) (number : ℕ)
    (past : List Entry) (was whole : Bool) →
    (AreReadBack (filings_of past) → IsJournalFile (header_text opening limit seed number) past) →
    Puts fresh page (header_text opening limit seed number) was → HasWritten page now was (filings_of past) whole →
    IsLifeFile fresh now opening limit seed number past whole
life_file fresh page now opening limit seed number past was whole law head has = record {
  text = all_text fresh page now (header_text opening limit seed number) (calls_text (filings_of past)) was whole head
      has.text has.cut;
  file = λ is. law (has.back is);
}
