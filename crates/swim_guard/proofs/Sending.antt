-- What a post was handed so far is what the post below was handed so far, as each is sent.
use Rattle.std.proofs.Common.{◌≡◌, ◌⊎◌, ℕ, ◌<◌, ◌≤◌, Bool, cond, List, [], ◌∷◌, ◌++◌, length, Option, Some, None, refl}
use Rattle.std.proofs.Common.{sym, ap, subst, ◌∙◌, inl, inr, arith}
use Rattle.std.proofs.lemmas.Bool.{cases_lt, le-ltb, lt-ltb}
use Rattle.std.specs.Prelude.{option_and_then}
use Rattle.swim_wire.specs.Address.{Address}
use Rattle.swim_keys.specs.Sealing.{Keyring}
use Rattle.swim_keys.proofs.Opening.{opened-sealed}
use Rattle.swim_trail.specs.Growing.{Grows}
use Rattle.swim_work.specs.Posts.{IsFresh, Posted}
use Rattle.swim_guard.specs.Each.{in_front}
use Rattle.swim_guard.specs.Guarded.{AtPost, Hands, Sent, handed_as, kept_back, longest_datagram_bytes, posted_by}
use Rattle.swim_guard.specs.Guarded.{sent_each, signed_by, unsigned_by, untaken, with_bytes}
use Rattle.swim_guard.specs.Guarded.Sent.{Kept, Signed}
use Rattle.swim_guard.proofs.Each.{grows_in_front}

-- what is sent for a text is that text
unsigned : (keys : Option Keyring) (text : List ℕ) → unsigned_by keys (signed_by keys text) ≡ Some text
unsigned None text = refl
unsigned (Some ring) text =
    opened-sealed (record { signing = ring.signing; others = [] }) (signed_by (Some ring) text) text
    (ring.signing, (0, omega arith, refl), refl)

-- what is sent for a text that isn't too long
handed_is : (keys : Option Keyring) (text : List ℕ) (p : Posted) → p.bytes ≡ signed_by keys text →
    length text ≤ longest_datagram_bytes → handed_as keys p ≡ Some (record p { bytes = text })
handed_is keys text p is fits =
    let so : Posted = record p { bytes = text } in
    let opens : unsigned_by keys p.bytes ≡ Some text = ap (unsigned_by keys) is ∙ unsigned keys text in
    ap (option_and_then (with_bytes p)) opens
    ∙ ap (λ (b : Bool). cond b None (Some so)) (le-ltb longest_datagram_bytes (length text) fits)

-- a text that is too long
kept_is : (text : List ℕ) (to : Address) → longest_datagram_bytes < length text →
    kept_back text to ≡ Some (untaken text to)
kept_is text to long =
    ap (λ (b : Bool). cond b (Some (untaken text to)) None) (lt-ltb longest_datagram_bytes (length text) long)

first_known : (first : Option Posted) (p : Posted) → first ≡ Some p →
    Grows (Some []) (in_front first (Some [])) (p ∷ [])
first_known first p is =
    subst (λ (o : Option Posted). Grows (Some []) (in_front o (Some [])) (p ∷ [])) (sym is) refl

-- nothing is known of what is sent behind something of which nothing is known
unknown_behind : (first : Option Posted) (others : Option (List Posted)) → others ≡ None →
    in_front first others ≡ None
unknown_behind None others none = refl
unknown_behind (Some p) others none = ap (λ (o : Option (List Posted)). in_front (Some p) o) none

-- more was handed on than is told
too_many : (below : List Posted) (p : Posted) → sent_each [] (below ++ p ∷ []) ≡ None
too_many [] p = refl
too_many (q ∷ below) p = refl

-- less was
too_few : (sent : List Sent) (keys : Option Keyring) → sent_each (sent ++ Signed keys ∷ []) [] ≡ None
too_few [] keys = refl
too_few (Kept text to ∷ sent) keys =
    unknown_behind (kept_back text to) (sent_each (sent ++ Signed keys ∷ []) []) (too_few sent keys)
too_few (Signed others ∷ sent) keys = refl

unknown : (new : Option (List Posted)) (more : List Posted) → new ≡ None → Grows None new more
unknown None more is = tt
unknown (Some new) more is = absurd (cc is)

-- one more was kept back
one_more_kept : (sent : List Sent) (below : List Posted) (text : List ℕ) (to : Address) →
    kept_back text to ≡ Some (untaken text to) →
    Grows (sent_each sent below) (sent_each (sent ++ Kept text to ∷ []) below) (untaken text to ∷ [])
one_more_kept [] [] text to is = first_known (kept_back text to) (untaken text to) is
one_more_kept [] (q ∷ below) text to is =
    unknown _ (untaken text to ∷ []) (unknown_behind (kept_back text to) None refl)
one_more_kept (Kept other there ∷ sent) below text to is =
    grows_in_front (kept_back other there) (sent_each sent below) (sent_each (sent ++ Kept text to ∷ []) below)
    (untaken text to ∷ []) (one_more_kept sent below text to is)
one_more_kept (Signed keys ∷ sent) [] text to is = tt
one_more_kept (Signed keys ∷ sent) (q ∷ below) text to is =
    grows_in_front (handed_as keys q) (sent_each sent below) (sent_each (sent ++ Kept text to ∷ []) below)
    (untaken text to ∷ []) (one_more_kept sent below text to is)

-- one more was handed on
one_more_signed : (sent : List Sent) (below : List Posted) (keys : Option Keyring) (p so : Posted) →
    handed_as keys p ≡ Some so →
    Grows (sent_each sent below) (sent_each (sent ++ Signed keys ∷ []) (below ++ p ∷ [])) (so ∷ [])
one_more_signed [] [] keys p so is = first_known (handed_as keys p) so is
one_more_signed [] (q ∷ below) keys p so is =
    unknown _ (so ∷ [])
    (unknown_behind (handed_as keys q) (sent_each [] (below ++ p ∷ [])) (too_many below p))
one_more_signed (Kept text to ∷ sent) below keys p so is =
    grows_in_front (kept_back text to) (sent_each sent below)
    (sent_each (sent ++ Signed keys ∷ []) (below ++ p ∷ [])) (so ∷ []) (one_more_signed sent below keys p so is)
one_more_signed (Signed others ∷ sent) [] keys p so is =
    unknown _ (so ∷ [])
    (unknown_behind (handed_as others p) (sent_each (sent ++ Signed keys ∷ []) []) (too_few sent keys))
one_more_signed (Signed others ∷ sent) (q ∷ below) keys p so is =
    grows_in_front (handed_as others q) (sent_each sent below)
    (sent_each (sent ++ Signed keys ∷ []) (below ++ p ∷ [])) (so ∷ []) (one_more_signed sent below keys p so is)

more_kept : (below : Option (List Posted)) (old new : List Sent) (text : List ℕ) (to : Address) →
    kept_back text to ≡ Some (untaken text to) → new ≡ old ++ Kept text to ∷ [] →
    Grows (posted_by below old) (posted_by below new) (untaken text to ∷ [])
more_kept None old new text to so is = tt
more_kept (Some below) old new text to so is = rw is (one_more_kept old below text to so)

more_signed : (before now : Option (List Posted)) (old new : List Sent) (keys : Option Keyring) (p so : Posted) →
    handed_as keys p ≡ Some so → Grows before now (p ∷ []) → new ≡ old ++ Signed keys ∷ [] →
    Grows (posted_by before old) (posted_by now new) (so ∷ [])
more_signed None None old new keys p so handed grows is = tt
more_signed None (Some now) old new keys p so handed grows is = absurd grows
more_signed (Some before) None old new keys p so handed grows is = absurd grows
more_signed (Some before) (Some now) old new keys p so handed grows is =
    rw (grows, is) (one_more_signed old before keys p so handed)

posted_by_size : {O : Type 0} (posted : O → Option (List Posted)) (old new : AtPost O) (text : List ℕ) (to : Address)
    (is_taken : Bool) → Hands posted old new text to is_taken →
    (longest_datagram_bytes < length text) ⊎ (length text ≤ longest_datagram_bytes) →
    Grows (posted_by (posted old.post) old.sent) (posted_by (posted new.post) new.sent)
    (record { bytes = text; to = to; is_taken = is_taken } ∷ [])
posted_by_size {O} posted old new text to is_taken hands (inl long) =
    let kept = hands.1 long in
    subst (λ (b : Bool). Grows (posted_by (posted old.post) old.sent) (posted_by (posted new.post) new.sent)
    (record { bytes = text; to = to; is_taken = b } ∷ [])) (sym kept.not_taken)
    (subst (λ (o : O). Grows (posted_by (posted old.post) old.sent) (posted_by (posted o) new.sent)
    (untaken text to ∷ [])) (sym kept.post)
    (more_kept (posted old.post) old.sent new.sent text to (kept_is text to long) kept.noted))
posted_by_size posted old new text to is_taken hands (inr fits) =
    let signed = hands.0 fits in
    let p : Posted = record { bytes = signed_by signed.keys text; to = to; is_taken = is_taken } in
    more_signed (posted old.post) (posted new.post) old.sent new.sent signed.keys p (record p { bytes = text })
    (handed_is signed.keys text p refl fits) signed.grows signed.noted

-- what a post was handed once is noted, and handed on
pub posted_more : {O : Type 0} (posted : O → Option (List Posted)) (old new : AtPost O) (text : List ℕ) (to : Address)
    (is_taken : Bool) → Hands posted old new text to is_taken →
    Grows (posted_by (posted old.post) old.sent) (posted_by (posted new.post) new.sent)
    (record { bytes = text; to = to; is_taken = is_taken } ∷ [])
posted_more posted old new text to is_taken hands =
    posted_by_size posted old new text to is_taken hands (cases_lt longest_datagram_bytes (length text))

-- a post over one that was handed nothing was handed nothing
pub none_posted : (below : Option (List Posted)) (sent : List Sent) → sent ≡ [] → IsFresh below →
    IsFresh (posted_by below sent)
none_posted None sent none fresh = tt
none_posted (Some []) sent none fresh = rw none refl
none_posted (Some (p ∷ below)) sent none fresh = absurd (cc fresh)
