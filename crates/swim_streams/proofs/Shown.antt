-- What a terminal gets, byte by byte.
use Rattle.std.proofs.Common.{◌≡◌, ℕ, suc, ◌<◌, ◌+◌, Bool, true, false, List, [], ◌∷◌, ◌++◌, length, map, take, drop}
use Rattle.std.proofs.Common.{Option, slice_index_or, take-suc, append-nil, refl, sym, ap, subst, ◌∙◌, arith}
use Rattle.std.proofs.Common.{take-append-drop}
use Rattle.std.proofs.lemmas.List.{map-append}
use Rattle.std.specs.Io.KnownBytes.{Keeps}
use Rattle.swim_text.specs.Streams.{Puts, puts_less, puts_then}
use Rattle.swim_streams.specs.Screens.{known, shown}

-- of a terminal nothing is known
pub screened : (is : Bool) (o n : Option (List ℕ)) (text : List ℕ) (done : Bool) → is ≡ true →
    Puts (known is o) (known is n) text done
screened true o n text true e = tt
screened true o n text false e = record { front = text; unput = []; cut = sym (append-nil text); grows = tt }
screened false o n text done e = absurd cc

-- of anything else what it took
pub unscreened : (is : Bool) (o n : Option (List ℕ)) (text : List ℕ) (done : Bool) → is ≡ false → Puts o n text done →
    Puts (known is o) (known is n) text done
unscreened true o n text done e put = absurd cc
unscreened false o n text done e put = put

pub keeps_screened : (is : Bool) (o n : Option (List ℕ)) → Keeps o n → Keeps (known is o) (known is n)
keeps_screened true o n kept = tt
keeps_screened false o n kept = kept

-- ---- byte by byte

shown_at : (text : List ℕ) (i default byte : ℕ) → i < length text → byte ≡ slice_index_or text i default →
    map shown (take (suc i) text) ≡ map shown (take i text) ++ shown byte ∷ []
shown_at text i default byte within at =
    ap (map shown) (take-suc text i default within ∙ ap (λ b. take i text ++ b ∷ []) (sym at))
    ∙ map-append shown (take i text) (byte ∷ [])

-- one more was taken
pub shown_more : (o m n : Option (List ℕ)) (text : List ℕ) (i default byte : ℕ) → i < length text →
    byte ≡ slice_index_or text i default → Puts o m (map shown (take i text)) true →
    Puts m n (shown byte ∷ []) true → Puts o n (map shown (take (i + 1) text)) true
shown_more o m n text i default byte within at so_far more =
    let next : i + 1 ≡ suc i = omega arith in
    subst (λ t. Puts o n t true)
    (sym (ap (λ k. map shown (take k text)) next ∙ shown_at text i default byte within at))
    (puts_then o m n (map shown (take i text)) (shown byte ∷ []) true so_far more)

-- one was not
pub shown_failed : (o m n : Option (List ℕ)) (text : List ℕ) (i default byte : ℕ) → i < length text →
    byte ≡ slice_index_or text i default → Puts o m (map shown (take i text)) true →
    Puts m n (shown byte ∷ []) false → Puts o n (map shown text) false
shown_failed o m n text i default byte within at so_far failed =
    let rest = map shown (drop (suc i) text) in
    subst (λ t. Puts o n t false)
    (ap (λ t. t ++ rest) (sym (shown_at text i default byte within at))
    ∙ sym (map-append shown (take (suc i) text) (drop (suc i) text)) ∙ ap (map shown) (take-append-drop (suc i) text))
    (puts_less o n (map shown (take i text) ++ shown byte ∷ []) rest
    (puts_then o m n (map shown (take i text)) (shown byte ∷ []) false so_far failed))
