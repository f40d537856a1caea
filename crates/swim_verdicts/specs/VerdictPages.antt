-- The page about a verdict.
use Rattle.std.specs.Prelude.{◌≡◌, ℕ, ◌==◌, List, [], ◌∷◌, ◌++◌, codes, decimal, if◌then◌else◌}
use Rattle.swim_evidence.specs.declared.findings.Evidence.{Evidence}
use Rattle.swim_evidence.specs.declared.verdicts.Verdict.{Verdict}
use Rattle.swim_evidence.specs.declared.verdicts.Verdict.TheVariants.{Whole, Cut}
use Rattle.swim_script.specs.declared.faults.ScriptFault.{ScriptFault}
use Rattle.swim_verdicts.specs.declared.examining.Played.{Played}
use Rattle.swim_verdicts.specs.declared.page_frame.TheConstants.{PAGE_STYLE}
use Rattle.swim_verdicts.specs.declared.told_texts.TextKind.TheVariants.{Words, Time}
use Rattle.swim_verdicts.specs.Examined.{IsVerdictOn}
use Rattle.swim_verdicts.specs.ShellWords.{shell_word}
use Rattle.swim_verdicts.specs.ToldTexts.{IsOf, IsPicture, Sheet}
use Rattle.swim_verdicts.specs.VerdictTables.{table_text}
use Rattle.swim_verdicts.specs.VerdictTexts.{end_text, objection_text}

-- a sign as HTML shows it
abbrev pub html_sign : ℕ → List ℕ
html_sign sign = if sign == 60 then codes "&lt;" else (if sign == 38 then codes "&amp;" else sign ∷ [])

-- a text as HTML shows it: no sign of it is a tag or a part of one
abbrev pub html_text : List ℕ → List ℕ
html_text [] = []
html_text (sign ∷ text) = html_sign sign ++ html_text text

-- whether a file is verified, and if it isn't, what speaks against it and where
abbrev pub standing_text : Verdict ScriptFault → ℕ → List ℕ
standing_text Whole confirmed = codes "<p>The file is verified, and whole.</p>\n"
standing_text Cut confirmed =
    codes "<p>The file is verified as far as it goes: cut " ++ (end_text confirmed ++ codes ".</p>\n")
standing_text verdict confirmed =
    codes "<p class=\"alarm\" role=\"alert\">This file is not verified: "
    ++ (objection_text verdict confirmed ++ codes ".</p>\n")

-- the same of a file that was played, by the verdict on it
abbrev pub IsStanding : Played → List ℕ → Type 0
IsStanding p text = (v : Verdict ScriptFault) × IsVerdictOn p v
    × (text ≡ standing_text v p.witness.confirmations.confirmed)

-- a page on a member and the number of a period, with a path as HTML shows it, how the file stands, and more
abbrev pub page_text : ℕ → ℕ → List ℕ → List ℕ → List ℕ → List ℕ
page_text member number path standing rest =
    codes "<!doctype html>\n<html lang=\"en\">\n<head>\n<title>Member "
    ++ (decimal member ++ (codes ", period "
    ++ (decimal number ++ (codes "</title>\n"
    ++ (PAGE_STYLE.now ++ (codes "<h1>Member "
    ++ (decimal member ++ (codes " was judged failed in period "
    ++ (decimal number ++ (codes "</h1>\n<p>By the file <code>"
    ++ (path ++ (codes "</code>.</p>\n"
    ++ (standing ++ (rest ++ codes "</main>\n</body>\n</html>\n"))))))))))))))

-- what follows the head: the words, the table, the picture, and the commands that show the same, with this word for the
-- path
abbrev pub rest_text : ℕ → ℕ → List ℕ → List ℕ → List ℕ → List ℕ → List ℕ
rest_text member number word words table picture =
    codes "<h2>Evidence</h2>\n<pre>"
    ++ (words ++ (codes "</pre>\n<table>\n"
    ++ (table ++ (codes "</table>\n<h2>The periods round it</h2>\n"
    ++ (codes "<div class=\"wide\" role=\"region\" aria-label=\"The periods round it\" tabindex=\"0\">\n"
    ++ (picture ++ (codes "</div>\n<h2>By hand</h2>\n<pre>swimsim --verify "
    ++ (word ++ (codes "\nswimsim --timeline run.svg --around "
    ++ (decimal member ++ (codes " --period "
    ++ (decimal number ++ (codes " "
    ++ (word ++ codes "\n</pre>\n"))))))))))))))

-- the page about a verdict that the file with this path tells: its head names that verdict, it says how that file
-- stands, its words and the time of the probe were written of that verdict in that file, its table has what the
-- evidence has, its picture was drawn of that file, round that verdict, and a shell takes its commands for that file
pub record IsVerdictPage (path : List ℕ) (p : Played) (e : Evidence) (page : Sheet) : Type 0 where
  pub standing : List ℕ
  pub stands : IsStanding p standing
  pub words : List ℕ
  pub told : IsOf Words p e page.words words
  pub time : List ℕ
  pub timed : IsOf Time p e page.times time
  pub picture : List ℕ
  pub drawn : IsPicture p e page.pictures picture
  pub is : page.text ≡ page_text e.member e.number (html_text path) standing
      (rest_text e.member e.number (html_text (shell_word path)) words (table_text e time) picture)
