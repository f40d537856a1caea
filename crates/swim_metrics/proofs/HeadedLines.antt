-- The lines of metrics, one after the other, with their heads.
use Rattle.std.proofs.Common.{◌≡◌, ℕ, zero, suc, ◌-◌, ◌<◌, List, ◌++◌, Option, Some, None, refl, subst, sym, arith}
use Rattle.swim_text.specs.Parts.{cut}
use Rattle.swim_history.specs.Texts.{feed}
use Rattle.swim_metrics.specs.declared.heads.Metric.{Metric}
use Rattle.swim_metrics.specs.Families.{all}
use Rattle.swim_metrics.specs.Headed.{first_of, head_if, headed_in}

-- where no line is left to look at
pub none_left : (most : ℕ) (before : Option Metric) (text : List ℕ) → most ≡ 0 → text ≡ headed_in most before text
none_left zero before text is = refl
none_left (suc most) before text is = absurd (omega (arith, is))

-- where no line is at its end
pub no_line : (most : ℕ) (before : Option Metric) (text : List ℕ) → cut 10 text ≡ None →
    text ≡ headed_in most before text
no_line zero before text is = refl
no_line (suc most) before text is = rw is refl

first_line : (most : ℕ) (before : Option Metric) (text line others : List ℕ) → cut 10 text ≡ Some (line, others) →
    (head_if before (first_of all line) ++ (line ++ feed)) ++ headed_in most (first_of all line) others ≡
    headed_in (suc most) before text
first_line most before text line others is = rw is refl

one_less : (n : ℕ) → suc n - 1 ≡ n
one_less n = omega arith

-- a line of this metric, and those behind it
pub line_and_others : (most : ℕ) (before metric : Option Metric) (text line others : List ℕ) → 0 < most →
    metric ≡ first_of all line → cut 10 text ≡ Some (line, others) →
    (head_if before metric ++ (line ++ feed)) ++ headed_in (most - 1) metric others ≡ headed_in most before text
line_and_others zero before metric text line others some of is = absurd (omega (arith, some))
line_and_others (suc most) before metric text line others some of is =
    subst (λ (n : ℕ). (head_if before metric ++ (line ++ feed)) ++ headed_in n metric others ≡
    headed_in (suc most) before text) (sym (one_less most))
    (subst (λ (m : Option Metric). (head_if before m ++ (line ++ feed)) ++ headed_in most m others ≡
    headed_in (suc most) before text) (sym of) (first_line most before text line others is))
