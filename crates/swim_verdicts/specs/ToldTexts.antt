-- Texts on a verdict of whose bytes no contract says more than what they were written of.
use Rattle.std.specs.Prelude.{◌≡◌, ℕ, List, [], ◌∷◌, Option, Some, None}
use Rattle.swim_evidence.specs.declared.findings.Evidence.{Evidence}
use Rattle.swim_history.specs.Storing.Written.{Written}
use Rattle.swim_timeline.specs.declared.spans.Span.{Span}
use Rattle.swim_timeline.specs.declared.spans.View.TheVariants.{At}
use Rattle.swim_timeline.specs.Spans.{span_of}
use Rattle.swim_verdicts.specs.declared.examining.Played.{Played}
use Rattle.swim_verdicts.specs.declared.told_texts.TextKind.{TextKind}

-- what a text was written of: what it is to tell, and the verdict of a file that was played
pub record Subject : Type 0 where
  pub kind : TextKind
  pub played : Played
  pub evidence : Evidence

-- texts that were written, each with what it was written of
abbrev pub Texts : Type 0
Texts = List (Subject × List ℕ)

-- what a picture was drawn of: ticks of the journal of a file that was played, with the times that this file tells
pub record Ticks : Type 0 where
  pub played : Played
  pub span : Span

-- pictures that were drawn, each with what it was drawn of
abbrev pub Pictures : Type 0
Pictures = List (Ticks × List ℕ)

-- a page: its text, and the words, the times and the pictures that were written for it
pub record Sheet : Type 0 where
  pub text : List ℕ
  pub words : Texts
  pub times : Texts
  pub pictures : Pictures

-- this text alone was written, of that verdict of that file
abbrev pub IsOf : TextKind → Played → Evidence → Texts → List ℕ → Type 0
IsOf kind p e written text = written ≡ (record { kind = kind; played = p; evidence = e }, text) ∷ []

-- this picture alone was drawn, of those ticks of that file; without ticks it is empty
abbrev pub Draws : Played → Option Span → Pictures → List ℕ → Type 0
Draws p None drawn picture = (drawn ≡ []) × (picture ≡ [])
Draws p (Some span) drawn picture = drawn ≡ (record { played = p; span = span }, picture) ∷ []

-- the picture shows the periods round the verdict, by the journal of that file, if it has one
abbrev pub IsPictureBy : Played → Option Written → Evidence → Pictures → List ℕ → Type 0
IsPictureBy p None e drawn picture = (drawn ≡ []) × (picture ≡ [])
IsPictureBy p (Some journal) e drawn picture =
    Draws p (span_of journal.opening journal.past (At e.member e.number)) drawn picture

abbrev pub IsPicture : Played → Evidence → Pictures → List ℕ → Type 0
IsPicture p e drawn picture = IsPictureBy p p.journal e drawn picture
