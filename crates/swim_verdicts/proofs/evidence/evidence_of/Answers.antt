use Rattle.std.proofs.Common.{◌+◌, List, ◌∷◌, ◌++◌, take, drop, refl, subst, sym, ap, ◌∙◌}
use Rattle.std.proofs.lemmas.List.{drop_more, take-append-drop, take_all}
use Rattle.std.proofs.lemmas.List.Elements.{All-more, All-nil}
use Rattle.std.specs.List.{Contains}
use Rattle.swim_evidence.specs.declared.findings.Finding.{Finding}
use Rattle.swim_verdicts.specs.Examined.{IsOther, LacksVerdict}
use Rattle.swim_verdicts.proofs.evidence.evidence_of.Goals as goal

pub loop-finding-init : goal.loop-finding-init
loop-finding-init c = All-nil (IsOther c.args.member c.args.number)

pub returns-in-Some-clause-found : goal.returns-in-Some-clause-found
returns-in-Some-clause-found c = (
  c.in-Some.ensures.found.0,
  c.in-Some.ensures.found.1,
  subst (Contains c.args.findings.now) c.in-Some.ensures.found.2
      (c.loop-finding.finding-index, c.loop-finding-test.true, sym c.finding-item.is),
)

pub returns-in-Some-clause-first : goal.returns-in-Some-clause-first
returns-in-Some-clause-first c =
    let found = c.args.findings.now in
    let at = c.loop-finding.finding-index in
    record {
      before = take at found;
      behind = drop (at + 1) found;
      parts = sym (take-append-drop at found)
          ∙ ap (λ (rest : List Finding). take at found ++ rest)
          (drop_more found at c.finding-item.result c.loop-finding-test.true
          ∙ ap (λ (f : Finding). f ∷ drop (at + 1) found) (sym c.finding-item.is ∙ c.in-Some.ensures.found.2));
      none = c.loop-finding.invariant;
    }

pub loop-finding-preserved : goal.loop-finding-preserved
loop-finding-preserved c =
    All-more (IsOther c.args.member c.args.number) c.args.findings.now c.loop-finding.finding-index
    c.finding-item.result c.loop-finding-test.true c.loop-finding.invariant
    (subst (IsOther c.args.member c.args.number) c.finding-item.is (c.in_default.ensures.none refl))

pub returns-clause-none : goal.returns-clause-none
returns-clause-none c = λ none.
    subst (λ found. LacksVerdict found c.args.member c.args.number)
    (take_all c.loop-finding.finding-index c.args.findings.now c.loop-finding-test.false) c.loop-finding.invariant
