-- Notices: lines for people, beside what is written for programs.
use Rattle.std.specs.Prelude.{◌≡◌, ℕ, false, List, [], ◌∷◌, ◌++◌, codes}
use Rattle.std.proofs.Common.{refl, subst, sym}
use Rattle.swim_text.specs.Lines.{has_feed}
use Rattle.swim_telling.specs.Telling.{TellsText, Written}

-- one line, without its line feed
abbrev pub IsLine : List ℕ → Type 0
IsLine line = has_feed line ≡ false

abbrev pub line_text : List ℕ → List ℕ
line_text line = line ++ codes "\n"

-- these lines were written, newest first, each as far as it was taken; nothing else was
abbrev pub AreNoticed : Written → Written → List (List ℕ) → Type 0
AreNoticed old new [] = new ≡ old
AreNoticed old new (line ∷ before) =
    (between : Written) × AreNoticed old between before × IsLine line × TellsText (line_text line) between new

-- some lines were written, or none
abbrev pub Notices : Written → Written → Type 0
Notices old new = (lines : List (List ℕ)) × AreNoticed old new lines

-- ---- laws

pub no_notices : (old : Written) → Notices old old
no_notices old = ([], refl)

noticed_both : (old mid new : Written) (first then : List (List ℕ)) → AreNoticed old mid first →
    AreNoticed mid new then →
    AreNoticed old new (then ++ first)
noticed_both old mid new first [] is more = subst (λ w. AreNoticed old w first) (sym more) is
noticed_both old mid new first (line ∷ before) is more =
    (more.0, noticed_both old mid more.0 first before is more.1, more.2, more.3)

-- some lines, and then some more
pub notices_both : (old mid new : Written) → Notices old mid → Notices mid new → Notices old new
notices_both old mid new first then = (then.0 ++ first.0, noticed_both old mid new first.0 then.0 first.1 then.1)
