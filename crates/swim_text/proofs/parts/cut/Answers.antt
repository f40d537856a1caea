use Rattle.std.proofs.Common.{◌≡◌, ℕ, suc, ◌+◌, ◌-◌, List, ◌∷◌, ◌++◌, length, take, drop, get_or, Some, add-one, ap}
use Rattle.std.proofs.Common.{sym, ◌∙◌, arith}
use Rattle.std.proofs.lemmas.Bool.{eqb-true}
use Rattle.std.proofs.lemmas.List.{take_all, take-append-drop, length-drop}
use Rattle.std.proofs.Math.Seq.{drop-cons}
use Rattle.swim_text.specs.Parts.{cut, cut_at, cut_none, has_none}
use Rattle.swim_text.proofs.parts.cut.Goals as goal

pub returns : goal.returns
returns c =
    let text = c.args.text.now in
    let i = c.in_ok-i.i in
    let found = c.in_ok-i.ensures in
    let none = has_none c.args.byte text i (λ k below. found.0.before k (omega arith) below)
    (omega (arith, found.0.high)) in
    let rest : take (length text - (i + 1)) (drop (i + 1) text) ≡ drop (i + 1) text =
    take_all (length text - (i + 1)) (drop (i + 1) text) (omega (arith, length-drop (i + 1) text)) in
    let here : drop i text ≡ c.args.byte ∷ drop (i + 1) text =
    rw add-one (drop-cons text i 0 found.0.high ∙
    ap (λ b. b ∷ drop (suc i) text) (eqb-true (get_or text i 0) c.args.byte found.1)) in
    let whole : text ≡ take i text ++ (c.args.byte ∷ drop (i + 1) text) = sym (take-append-drop i text) ∙
    ap (λ (after : List ℕ). take i text ++ after) here in
    ap (cut c.args.byte) whole ∙ cut_at c.args.byte (take i text) (drop (i + 1) text) none ∙
    ap (λ (after : List ℕ). Some (take i text, after)) (sym rest)

pub returns-in_err-i : goal.returns-in_err-i
returns-in_err-i c =
    let text = c.args.text.now in
    let none = has_none c.args.byte text (length text) (λ k below. c.in_err-i.ensures k (omega arith) below)
    (omega arith) in
    rw c.from_residual.ensures (cut_none c.args.byte text (rw (take_all (length text) text (omega arith)) at none))
