-- What is said of files in which a verdict was looked for, and which don't tell it.
use Rattle.std.specs.Prelude.{◌≡◌, ℕ, Bool, List, [], ◌++◌, codes}
use Rattle.std.specs.List.{All, flat_map}
use Rattle.swim_evidence.specs.declared.verdicts.Standing.{Standing}
use Rattle.swim_evidence.specs.declared.verdicts.Standing.TheVariants.{Sound}
use Rattle.swim_evidence.specs.Verdicts.{standing_by}
use Rattle.swim_verdicts.specs.declared.examining.Played.{Played}
use Rattle.swim_verdicts.specs.declared.verdict_lines.Objection.{Objection}
use Rattle.swim_verdicts.specs.Examined.{IsVerdictOn, LacksVerdict, told_by}
use Rattle.swim_verdicts.specs.VerdictTexts.{objection_text}
use Rattle.swim_pages.specs.Searches.{rest_text}

-- that is what is to be said against a file that was played
pub record IsObjection (p : Played) (o : Objection) : Type 0 where
  pub verdict : IsVerdictOn p o.verdict
  pub confirmed : o.confirmed ≡ p.witness.confirmations.confirmed

-- a file, by its path, and what is to be said against it
pub record Doubted : Type 0 where
  pub path : List ℕ
  pub objection : Objection

-- the line about such a file
abbrev pub doubt_line : List ℕ → Objection → List ℕ
doubt_line path o = path ++ (codes ": " ++ (objection_text o.verdict o.confirmed ++ codes "\n"))

abbrev pub unless_sound : Standing → List ℕ → List ℕ
unless_sound Sound line = []
unless_sound standing line = line

-- it stands there unless the file is verified
abbrev pub doubt_text : Doubted → List ℕ
doubt_text d = unless_sound (standing_by d.objection.verdict) (doubt_line d.path d.objection)

-- a journal file was replayed whose confirmed entries don't tell the verdict on that member at the end of that period,
-- and that is what is to be said against it
pub record IsDoubted (member number : ℕ) (d : Doubted) : Type 0 where
  pub played : Played
  pub objection : IsObjection played d.objection
  pub lacks : LacksVerdict (told_by played.journal played.witness.confirmations.confirmed) member number

-- these are the lines about some such files, in order
pub record AreDoubts (member number : ℕ) (text : List ℕ) : Type 0 where
  pub files : List Doubted
  pub each : All (IsDoubted member number) files
  pub is : text ≡ flat_map doubt_text files

-- these are such lines, and behind them whether files were left out
pub record IsLacking (is_cut : Bool) (member number : ℕ) (text : List ℕ) : Type 0 where
  pub doubts : List ℕ
  pub of : AreDoubts member number doubts
  pub is : text ≡ doubts ++ rest_text is_cut
