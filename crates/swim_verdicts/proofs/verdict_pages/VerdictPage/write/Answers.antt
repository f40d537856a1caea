use Rattle.std.proofs.Common.{◌≡◌, List, ℕ, subst, sym, ap, ◌∙◌, string_bytes}
use Rattle.swim_verdicts.specs.ShellWords.{shell_word}
use Rattle.swim_verdicts.specs.ToldTexts.{IsOf, IsPicture}
use Rattle.swim_verdicts.specs.VerdictPages.{IsStanding, html_text, page_text, rest_text}
use Rattle.swim_verdicts.specs.VerdictTables.{table_text}
use Rattle.swim_verdicts.specs.declared.told_texts.TextKind.TheVariants.{Words, Time}
use Rattle.swim_verdicts.proofs.verdict_pages.VerdictPage.write.Goals as goal

pub returns : goal.returns
returns c =
    let p = c.args.self.now.played.now in
    let e = c.args.self.now.evidence.now in
    let path = html_text c.args.self.now.path.now in
    let word = html_text (shell_word c.args.self.now.path.now) in
    let words = c.as_bytes-3.result.now in
    let time = c.as_str.result.now in
    let picture = c.text-3.result.now in
    let standing = c.as_bytes-4.result.now in
    let words_are : string_bytes c.in_ok-words.words ≡ words =
    sym (c.as_bytes-3.ensures.value ∙ c.as_str-2.ensures.value) in
    let path_is : c.in_ok-path.path.text ≡ path = c.in_ok-path.ensures ∙ ap html_text c.as_bytes.ensures.value in
    let word_is : c.in_ok-word.word.text ≡ word =
    c.in_ok-word.ensures ∙ ap (λ (at : List ℕ). html_text (shell_word at)) c.as_bytes-2.ensures.value in
    let rest_is : c.text-5.result.now ≡ rest_text e.member e.number word words (table_text e time) picture =
    c.text-5.ensures ∙ (c.in_ok-rest.ensures
    ∙ (ap (λ (at : List ℕ). rest_text e.member e.number at words c.text-2.result.now picture)
    (c.text.ensures ∙ word_is)
    ∙ ap (λ (table : List ℕ). rest_text e.member e.number word words table picture)
    (c.text-2.ensures ∙ c.in_ok-table.ensures))) in
    record {
      standing = standing;
      stands = subst (IsStanding p) (sym (c.as_bytes-4.ensures.value ∙ c.as_str-3.ensures.value))
          c.in_ok-standing.ensures;
      words = words;
      told = subst (IsOf Words p e c.in_ok-words.told.items) words_are c.in_ok-words.ensures;
      time = time;
      timed = subst (IsOf Time p e c.in_ok-time.timed.items) (sym c.as_str.ensures.value) c.in_ok-time.ensures;
      picture = picture;
      drawn = subst (IsPicture p e c.in_ok-picture.drawn.items) (sym c.text-3.ensures)
          c.in_ok-picture.ensures;
      is = c.in_ok-text.ensures
          ∙ (ap (λ (at : List ℕ). page_text e.member e.number at standing c.text-5.result.now)
          (c.text-4.ensures ∙ path_is)
          ∙ ap (page_text e.member e.number path standing) rest_is);
    }
