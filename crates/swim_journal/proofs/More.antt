-- One more call in the text of a journal's calls.
use Rattle.std.proofs.Common.{◌≡◌, List, [], ◌∷◌, ◌++◌, refl, sym, ap, ◌∙◌, append_assoc, append-nil}
use Rattle.swim_node.specs.Cells.{Filing}
use Rattle.swim_journal.specs.Journals.{kept_text, calls_text, AreReadBack}

calls_join : (calls more : List Filing) → calls_text (calls ++ more) ≡ calls_text calls ++ calls_text more
calls_join [] more = refl
calls_join (x ∷ calls) more = ap (λ l. kept_text x.kept ++ l) (calls_join calls more) ∙
    sym (append_assoc (kept_text x.kept) (calls_text calls) (calls_text more))

pub calls_more : (calls : List Filing) (f : Filing) →
    calls_text (calls ++ f ∷ []) ≡ calls_text calls ++ kept_text f.kept
calls_more calls f = calls_join calls (f ∷ []) ∙ ap (λ l. calls_text calls ++ l) (append-nil (kept_text f.kept))

-- ---- calls that read back

pub back_join : (calls more : List Filing) → AreReadBack calls → AreReadBack more → AreReadBack (calls ++ more)
back_join [] more p q = q
back_join (x ∷ calls) more p q = (p.0, back_join calls more p.1 q)

pub back_parts : (calls more : List Filing) → AreReadBack (calls ++ more) → AreReadBack calls × AreReadBack more
back_parts [] more p = (tt, p)
back_parts (x ∷ calls) more p = let rest = back_parts calls more p.1 in ((p.0, rest.0), rest.1)
