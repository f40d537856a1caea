-- What is said of one file after the other that doesn't tell a verdict.
use Rattle.std.proofs.Common.{◌≡◌, ℕ, Bool, List, [], ◌∷◌, ◌++◌, refl, sym, ap, ◌∙◌}
use Rattle.std.proofs.lemmas.List.{flat_map_more}
use Rattle.std.proofs.lemmas.List.Elements.{All-nil, All-push}
use Rattle.std.specs.List.{flat_map}
use Rattle.swim_pages.specs.Doubts.{AreDoubts, Doubted, IsDoubted, IsLacking, doubt_text}
use Rattle.swim_pages.specs.Searches.{rest_text}

pub none_doubted : (member number : ℕ) → AreDoubts member number []
none_doubted member number = record { files = []; each = All-nil (IsDoubted member number); is = refl }

pub one_more_doubted : (member number : ℕ) (old new : List ℕ) (d : Doubted) → AreDoubts member number old →
    IsDoubted member number d → new ≡ old ++ doubt_text d → AreDoubts member number new
one_more_doubted member number old new d doubts doubted is = record {
  files = doubts.files ++ d ∷ [];
  each = All-push (IsDoubted member number) doubts.files d doubts.each doubted;
  is = is ∙ (ap (λ l. l ++ doubt_text d) doubts.is ∙ flat_map_more doubt_text [] doubts.files d);
}

pub rest_told : (is_cut : Bool) (member number : ℕ) (old new : List ℕ) → AreDoubts member number old →
    new ≡ old ++ rest_text is_cut → IsLacking is_cut member number new
rest_told is_cut member number old new doubts is = record { doubts = old; of = doubts; is = is }
