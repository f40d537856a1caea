-- The events that are kept, as JSON.
use Rattle.std.specs.Prelude.{ℕ, Bool, true, false, List, [], ◌∷◌, ◌++◌, codes}

-- whether verdicts are explained by pages, and how the list of changes begins
abbrev pub changes_lead : Bool → List ℕ
changes_lead true = codes "{\"explained\":true,\"changes\":["
changes_lead false = codes "{\"explained\":false,\"changes\":["

-- this text before the first, and a comma before each other
abbrev pub lines_after : List ℕ → List (List ℕ) → List ℕ
lines_after lead [] = []
lines_after lead (line ∷ lines) = (lead ++ line) ++ lines_after (codes ",") lines

abbrev pub changes_text : Bool → List (List ℕ) → List ℕ
changes_text is_explained lines = changes_lead is_explained ++ (lines_after [] lines ++ codes "]}\n")
