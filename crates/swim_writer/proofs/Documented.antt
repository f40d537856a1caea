-- What is known of files that were noted.
use Rattle.std.proofs.Common.{◌≡◌, ℕ, List, [], ◌∷◌, ◌++◌, map, ap, ◌∙◌}
use Rattle.swim_trail.specs.Noted.{map_more}
use Rattle.swim_writer.specs.Documents.{document, document_in}

-- a file more was noted, with the path and the text that are wanted
pub one_more_file : (old new : List (List ℕ × List ℕ)) (path bytes text wanted : List ℕ) →
    new ≡ old ++ (text, bytes) ∷ [] → bytes ≡ path → text ≡ wanted →
    map document_in new ≡ map document_in old ++ document path wanted ∷ []
one_more_file old new path bytes text wanted is of same =
    map_more document_in old new (text, bytes) is
    ∙ ap (λ t. map document_in old ++ document bytes t ∷ []) same
    ∙ ap (λ p. map document_in old ++ document p wanted ∷ []) of
