-- What is shown of verdicts.
use Rattle.std.specs.Prelude.{◌≡◌, ◌==◌, ℕ, Bool, ◌&&◌, List, [], ◌∷◌, ◌++◌, Option, Some, None}
use Rattle.std.specs.List.{filter_map}
use Rattle.swim_pages.specs.declared.file_places.FileMark.{FileMark}
use Rattle.swim_pages.specs.declared.file_places.Place.{Place}
use Rattle.swim_evidence.specs.declared.findings.Evidence.{Evidence}
use Rattle.swim_evidence.specs.declared.findings.Finding.{Finding}
use Rattle.swim_evidence.specs.declared.findings.Finding.TheVariants.{Judged}
use Rattle.swim_pages.specs.Doubts.{IsLacking}
use Rattle.swim_verdicts.specs.declared.examining.Played.{Played}
use Rattle.swim_verdicts.specs.declared.verdict_lines.Objection.{Objection}
use Rattle.swim_verdicts.specs.Examined.{IsEvidence, LacksVerdict, told_by}
use Rattle.swim_verdicts.specs.ToldTexts.{Sheet}
use Rattle.swim_verdicts.specs.VerdictPages.{IsVerdictPage}
use Rattle.swim_web.specs.declared.shelves.Found.{Found}
use Rattle.swim_web.specs.declared.shelves.Found.TheVariants as finds

-- the same verdict, of the same file in the same state
pub record AreSame (a b : Place) : Type 0 where
  pub path : a.path.bytes ≡ b.path.bytes
  pub mark : a.mark ≡ b.mark
  pub member : a.member ≡ b.member
  pub number : a.number ≡ b.number

-- a page, and the place where its verdict was looked for
pub record PlacedSheet : Type 0 where
  pub place : Place
  pub sheet : Sheet

-- the verdict that a finding is, if it is one: whoever it is on, and at the end of which period
abbrev pub verdict_in : Finding → Option (ℕ × ℕ)
verdict_in (Judged e) = Some (e.member, e.number)
verdict_in finding = None

-- the verdicts among findings, in order
abbrev pub verdicts_in : List Finding → List (ℕ × ℕ)
verdicts_in found = filter_map verdict_in found

-- a verdict is the one on that member at the end of that period
abbrev pub is_verdict : ℕ → ℕ → ℕ × ℕ → Bool
is_verdict member number verdict = (verdict.0 == member) && (verdict.1 == number)

-- a file that was played: its path, how it stood, the verdicts that it tells, and what is to be said against it
pub record PlayedFile : Type 0 where
  pub path : List ℕ
  pub mark : FileMark
  pub played : Played
  pub verdicts : List (ℕ × ℕ)
  pub objection : Objection

-- these are all verdicts that the confirmed entries of the file tell
abbrev pub AreTold : Played → List (ℕ × ℕ) → Type 0
AreTold played verdicts = verdicts ≡ verdicts_in (told_by played.journal played.witness.confirmations.confirmed)

-- the file of that place was played in the state in which it stands, and its confirmed entries don't tell the verdict
-- that is looked for
pub record IsBlankAt (place : Place) (file : PlayedFile) : Type 0 where
  pub path : file.path ≡ place.path.bytes
  pub mark : file.mark ≡ place.mark
  pub lacks : LacksVerdict (told_by file.played.journal file.played.witness.confirmations.confirmed) place.member
      place.number

-- a journal file was replayed whose confirmed entries tell the verdict of that place, and this is the page about it
pub record IsWritten (place : Place) (sheet : Sheet) : Type 0 where
  pub played : Played
  pub evidence : Evidence
  pub tells : IsEvidence played place.member place.number evidence
  pub is : IsVerdictPage place.path.bytes played evidence sheet

-- the page that was shown last is the one about the verdict on that member at the end of that period, and this is its
-- text
pub record ShowsLast (shown : List (PlacedSheet × List ℕ)) (member number : ℕ) (text : List ℕ) : Type 0 where
  pub before : List (PlacedSheet × List ℕ)
  pub page : PlacedSheet
  pub last : shown ≡ before ++ (page, text) ∷ []
  pub written : IsWritten page.place page.sheet
  pub of : page.place.member ≡ member
  pub at : page.place.number ≡ number
  pub is : text ≡ page.sheet.text

-- what was found of the verdict on that member at the end of that period by a search that left out files or didn't, and
-- the text that was written of it: its page, or what speaks against the files that were looked at, none of which tells
-- it, and whether files were left out
pub record IsFound (shown : List (PlacedSheet × List ℕ)) (is_cut : Bool) (f : Found) (member number : ℕ)
    (text : List ℕ) : Type 0 where
  pub page : f ≡ finds.Page → ShowsLast shown member number text
  pub nothing : f ≡ finds.Nothing → IsLacking is_cut member number text
