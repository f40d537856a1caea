-- The names of a host.
use Rattle.std.proofs.Common.{◌≡◌, ℕ, ◌+◌, ◌-◌, ◌<◌, Bor, Bool, true, false, List, [], ◌∷◌, ◌++◌, length, take}
use Rattle.std.proofs.Common.{drop, MatchOption, Option, Some, None, codes, option_copied, slice_index_or, refl}
use Rattle.std.proofs.Common.{sym, ap, subst, ◌∙◌}
use Rattle.std.proofs.lemmas.List.{append_assoc, append_cancel_left, flat_map_more, take-append-drop}
use Rattle.std.proofs.lemmas.Slice.Eq.{bytes_eq-Decides}
use Rattle.std.specs.List.{flat_map}
use Rattle.std.specs.Str.{bytes_eq}
use Rattle.std.specs.Str.Pattern.{FindsTextSuffix, StripsSuffix}
use Rattle.swim_commands.proofs.Lines.{next_word, texts_of}
use Rattle.swim_pages.specs.HostNames.{own_names, without_port}

unless : (b : Bool) → (b ≡ true → ⊥) → b ≡ false
unless true wrong = absurd (wrong refl)
unless false wrong = refl

-- what is cut off a name is the port, if it ends with that
pub port_cut : (name : List ℕ) (r : Option (Bor (List ℕ))) →
    MatchOption r (FindsTextSuffix (codes ":80") name None)
    (λ x. StripsSuffix (FindsTextSuffix (codes ":80")) name x.now) →
    option_copied r ≡ without_port name
port_cut name None lacks =
    let front = take (length name - 3) name in
    let back = drop (length name - 3) name in
    let differs : bytes_eq back (codes ":80") ≡ false = unless (bytes_eq back (codes ":80")) (λ same.
    lacks front
    (sym (take-append-drop (length name - 3) name)
    ∙ ap (λ l. front ++ l) ((bytes_eq-Decides back (codes ":80")).0 same))) in
    rw differs refl
port_cut name (Some x) strips =
    let front = take (length name - 3) name in
    let back = drop (length name - 3) name in
    let cut : x.now ≡ front = subst (λ (n : ℕ). x.now ≡ take (length name - n) name) strips.1.0 strips.2 in
    let whole : name ≡ front ++ codes ":80" =
    subst (λ (n : ℕ). name ≡ take (length name - n) name ++ codes ":80") strips.1.0 strips.1.1 in
    let port : back ≡ codes ":80" =
    append_cancel_left front back (codes ":80") (take-append-drop (length name - 3) name ∙ whole) in
    let same : bytes_eq back (codes ":80") ≡ true = (bytes_eq-Decides back (codes ":80")).1 port in
    rw same (ap Some cut)

-- one name more
pub one_more_own : (first : List (List ℕ)) (given : List (Bor (List ℕ))) (index : ℕ) (default : Bor (List ℕ))
    (old new : List (List ℕ)) → index < length given →
    old ≡ flat_map own_names (first ++ texts_of (take index given)) →
    new ≡ old ++ own_names (slice_index_or given index default).now →
    new ≡ flat_map own_names (first ++ texts_of (take (index + 1) given))
one_more_own first given index default old new within so_far more =
    let before = texts_of (take index given) in
    let name = (slice_index_or given index default).now in
    more ∙ ap (λ l. l ++ own_names name) so_far ∙ flat_map_more own_names [] (first ++ before) name
    ∙ ap (flat_map own_names)
    (append_assoc first before (name ∷ [])
    ∙ ap (λ l. first ++ l) (sym (next_word given index default name within refl)))
