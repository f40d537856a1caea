use Rattle.std.proofs.Common.{◌≡◌, ℕ, List, None, refl, sym, ◌∙◌, inl, inr}
use Rattle.std.specs.Str.{IsUtf8, is_utf8}
use Rattle.std.proofs.lemmas.Bool.{cases_Bool, false≢true}
use Rattle.std.proofs.lemmas.Str.{is_utf8-from_IsUtf8, IsUtf8-from_is_utf8}
use Rattle.toml.specs.Parse.{parse_document}
use Rattle.swim_config.specs.Configuration.{document_of}
use Rattle.swim_config.proofs.reading.read_document.Goals as goal
use Rattle.swim_config.proofs.reading.read_document.Goals.{then-is_memory, else-is_memory}

-- bytes that are UTF-8 at the most where they are no document
no_document : (bytes : List ℕ) → (IsUtf8 bytes → parse_document bytes ≡ None) → document_of bytes ≡ None
no_document bytes none = elim (cases_Bool (is_utf8 bytes)) [
  | inl is ↦ rw is (none (IsUtf8-from_is_utf8 bytes is))
  | inr not ↦ rw not refl
]

pub returns-in-Ok : goal.returns-in-Ok
returns-in-Ok c =
    let is = c.in-Ok.ensures.ok in
    inr (rw (is_utf8-from_IsUtf8 c.args.bytes.now is.0, is.1) refl)

pub returns-after-is_memory : goal.returns-after-is_memory
returns-after-is_memory c = elim c.if-is_memory.branch [
  | then-is_memory w ↦ inl (rw w.result-is refl)
  | else-is_memory w ↦
      let none = no_document c.args.bytes.now
      (c.in-Err.ensures.refused (λ m. false≢true (sym w.if-is_memory.false ∙ c.is_memory.ensures.1 m))) in
      inr (rw (w.result-is, none) refl)
]
