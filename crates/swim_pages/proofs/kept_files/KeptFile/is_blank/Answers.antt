use Rattle.std.proofs.Common.{rules, ◌≡◌, ℕ, false, List, subst}
use Rattle.std.specs.List.{list_any}
use Rattle.swim_verdicts.specs.Examined.{told_by}
use Rattle.swim_pages.specs.Shelves.{IsBlankAt, PlayedFile, is_verdict, verdicts_in}
use Rattle.swim_pages.proofs.Verdicts.{lacks_unless_listed}
use Rattle.swim_pages.proofs.kept_files.KeptFile.is_blank.Goals as goal

pub returns-then-is_in : goal.returns-then-is_in
returns-then-is_in c = λ untold.
    let inside = c.self.inside in
    let told = told_by inside.played.value.journal inside.played.value.witness.confirmations.confirmed in
    let member = c.args.place.now.member in
    let number = c.args.place.now.number in
    let listed : list_any (is_verdict member number) inside.verdicts.items ≡ false = search rules in
    let lacking : list_any (is_verdict member number) (verdicts_in told) ≡ false = subst
    (λ (l : List (ℕ × ℕ)). list_any (is_verdict member number) l ≡ false) c.self.invariant.0 listed in
    subst (λ (f : PlayedFile). IsBlankAt c.args.place.now f) c.self.view_is (record {
      path = search rules;
      mark = search rules;
      lacks = lacks_unless_listed member number told lacking;
    })
