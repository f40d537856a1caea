-- What is heard over a line is the texts of the datagrams of the line below.
use Rattle.std.proofs.Common.{◌≡◌, ℕ, List, [], ◌∷◌, ◌++◌, length, take, drop, map, Option, Some, None, refl, sym}
use Rattle.std.proofs.Common.{subst, ◌∙◌, ap, append_assoc, append-nil}
use Rattle.std.specs.Option.{option_map, option_to_list}
use Rattle.std.proofs.lemmas.List.{take-append-drop, length-take, take_min}
use Rattle.std.proofs.Math.Seq.{take-append_seam}
use Rattle.swim_wire.specs.Address.{Address}
use Rattle.swim_keys.specs.Sealing.{Keyring, tag_of}
use Rattle.swim_keys.proofs.Opening.{sealed_when_opened}
use Rattle.swim_work.specs.declared.lines.Got.{Got}
use Rattle.swim_work.specs.declared.lines.Got.TheVariants.{Datagram, Idle, Fault}
use Rattle.swim_guard.specs.Guarded.{Judged, text_by, with_text, given, handed, datagram_in, datagrams}
use Rattle.swim_guard.specs.Guarded.{texts_judged, texts_of}

-- what begins a part of the bytes begins them
in_front : (text tag bytes : List ℕ) (count : ℕ) → take count bytes ≡ text ++ tag → take (length text) bytes ≡ text
in_front text tag bytes count is =
    let whole : bytes ≡ text ++ (tag ++ drop count bytes) =
    sym (take-append-drop count bytes) ∙ ap (λ front. front ++ drop count bytes) is ∙
    append_assoc text tag (drop count bytes) in
    ap (λ all. take (length text) all) whole ∙ take-append_seam text (tag ++ drop count bytes)

-- a text stands in front of the buffer
text_in_front : (keys : Option Keyring) (count : ℕ) (bytes text : List ℕ) →
    text_by keys (take count bytes) ≡ Some text →
    take (length text) bytes ≡ text
text_in_front None count bytes text is =
    subst (λ (t : List ℕ). take (length t) bytes ≡ t) (cc is)
    (ap (λ n. take n bytes) (length-take count bytes) ∙ take_min count bytes)
text_in_front (Some ring) count bytes text is =
    let was = sealed_when_opened ring (take count bytes) text is in
    in_front text (tag_of was.0 text) bytes count was.2

given_text : (source : Address) (bytes : List ℕ) (t : Option (List ℕ)) →
    ((text : List ℕ) → t ≡ Some text → take (length text) bytes ≡ text) →
    datagram_in (with_text source t) bytes ≡ option_map (λ text. (source, text)) t
given_text source bytes None front = refl
given_text source bytes (Some text) front = ap (λ x. Some (source, x)) (front text refl)

-- what is handed on is heard as its text
pub heard_as_text : (keys : Option Keyring) (got : Got) (bytes : List ℕ) →
    option_to_list (datagram_in (given keys got bytes) bytes) ≡ texts_of keys (option_to_list (datagram_in got bytes))
heard_as_text keys (Datagram count source) bytes =
    ap option_to_list (given_text source bytes (text_by keys (take count bytes))
    (λ text is. text_in_front keys count bytes text is))
    ∙ sym (append-nil _)
heard_as_text keys Idle bytes = refl
heard_as_text keys Fault bytes = refl

pub heard_are_the_texts : (js : List Judged) → datagrams (map handed js) ≡ texts_judged js
heard_are_the_texts [] = refl
heard_are_the_texts (j ∷ js) =
    ap (λ front. front ++ datagrams (map handed js)) (heard_as_text j.keys j.below.got j.below.bytes)
    ∙ ap (λ rest. texts_of j.keys (option_to_list (datagram_in j.below.got j.below.bytes)) ++ rest)
    (heard_are_the_texts js)
