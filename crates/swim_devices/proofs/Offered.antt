-- What an outlet took, once one more offer was noted.
use Rattle.std.proofs.Common.{◌≡◌, ℕ, List, [], ◌∷◌, ◌++◌, Some, length, ap, ◌∙◌, append-nil}
use Rattle.std.specs.List.{flat_map}
use Rattle.std.proofs.lemmas.Grind.{flat_map-append}
use Rattle.swim_events.specs.declared.outlets.Offer.{Offer}
use Rattle.swim_events.specs.declared.outlets.Offer.TheVariants.{Took, Full, Gone}
use Rattle.swim_events.specs.Guests.{Takes}
use Rattle.swim_devices.specs.Offers.{IsWithin, taken_in, taken_of}

grown : (old new : List (Offer × List ℕ)) (offer : Offer) (bytes : List ℕ) → new ≡ old ++ (offer, bytes) ∷ [] →
    flat_map taken_in new ≡ flat_map taken_in old ++ taken_of offer bytes
grown old new offer bytes is =
    ap (flat_map taken_in) is
    ∙ flat_map-append taken_in old ((offer, bytes) ∷ [])
    ∙ ap (λ taken. flat_map taken_in old ++ taken) (append-nil (taken_of offer bytes))

pub takes_more : (old new : List (Offer × List ℕ)) (offer : Offer) (bytes : List ℕ) → IsWithin offer (length bytes) →
    new ≡ old ++ (offer, bytes) ∷ [] →
    Takes offer bytes (Some (flat_map taken_in old)) (Some (flat_map taken_in new))
takes_more old new (Took count) bytes within is = (within, grown old new (Took count) bytes is)
takes_more old new Full bytes within is = grown old new Full bytes is
takes_more old new Gone bytes within is = grown old new Gone bytes is
