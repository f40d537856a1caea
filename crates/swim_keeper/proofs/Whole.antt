-- The bytes of a life's file that isn't told as cut are the file, but for comments.
use Rattle.std.proofs.Common.{◌≡◌, ℕ, false, List, [], Option, Some, refl, sym, ap, subst, ◌∙◌}
use Rattle.swim_history.specs.declared.entries.Entry.{Entry}
use Rattle.swim_history.specs.Setting.{Setting}
use Rattle.swim_journal.specs.Comments.{without_comments}
use Rattle.swim_journal.specs.Headings.{header_text}
use Rattle.swim_journal.specs.Replays.{file_text, IsJournalFile, IsFileText, IsPlayedBack, DiffersWhereRefused}
use Rattle.swim_journal.proofs.PlainFile.{plain_again}
use Rattle.swim_journal.proofs.PlayedBack.{played_back, differs_where_refused}
use Rattle.swim_crew.specs.declared.pasts.Terms.{Terms}
use Rattle.swim_recorder.specs.Filed.{Filed}
use Rattle.swim_keeper.specs.Told.{AreBytesOf, IsFileOf}
use Rattle.swim_keeper.proofs.Told.{not_cut}

whole_file : (terms : Terms) (life : ℕ) (o : Setting) (past : List Entry) (file : Filed) →
    IsFileOf (Some []) terms life o past file false →
    IsJournalFile (header_text o terms.limit terms.seed life) past
whole_file terms life o past file is = is.text.file (not_cut is.whole file.is_kept false is.cut refl).0

its_text : (terms : Terms) (life : ℕ) (o : Setting) (past : List Entry) (file : Filed) (bytes : List ℕ) →
    IsFileOf (Some []) terms life o past file false → file.bytes ≡ Some bytes →
    IsFileText (header_text o terms.limit terms.seed life) past bytes
its_text terms life o past file bytes is known =
    let text = file_text (header_text o terms.limit terms.seed life) past in
    let same : without_comments bytes ≡ text =
    subst (λ (b : Option (List ℕ)). AreBytesOf b text) known (is.bytes refl refl) in
    sym (plain_again bytes) ∙ ap without_comments same

pub whole_played : (terms : Terms) (life : ℕ) (o : Setting) (past : List Entry) (file : Filed) (bytes : List ℕ) →
    IsFileOf (Some []) terms life o past file false → file.bytes ≡ Some bytes → IsPlayedBack bytes past
whole_played terms life o past file bytes is known =
    played_back (header_text o terms.limit terms.seed life) past bytes (whole_file terms life o past file is)
    (its_text terms life o past file bytes is known)

pub whole_differs : (terms : Terms) (life : ℕ) (o : Setting) (past : List Entry) (file : Filed) (bytes : List ℕ) →
    IsFileOf (Some []) terms life o past file false → file.bytes ≡ Some bytes → DiffersWhereRefused bytes
whole_differs terms life o past file bytes is known =
    differs_where_refused (header_text o terms.limit terms.seed life) past bytes
    (whole_file terms life o past file is) (its_text terms life o past file bytes is known)
